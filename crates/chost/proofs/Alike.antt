-- What the plain tap answers is one.
use Rattle.std.specs.List.{flat_map}
use Rattle.std.proofs.Common.{◌≡◌, ℕ, ◌≤◌, List, ◌++◌, length, take, drop, Some, Ok, Err, Option, Result, sym, refl, ap, ◌∙◌, ap₂, arith}
use Rattle.std.proofs.lemmas.List.{take-append-le, length-take, take_all}
use Rattle.std.proofs.Math.Seq.{take-append_seam}
use Rattle.stores.specs.declared.question.Question.{Question}
use Rattle.taps.proofs.Reading.{one_telling}
use Rattle.refusals.specs.declared.refusal.Refusal.{Refusal}
use Rattle.refusals.proofs.Ranking.{SamePlace, same_place, least_same}
use Rattle.headers.specs.declared.mark.Mark.{Mark}
use Rattle.compiler.specs.declared.fault.LoadFault.{LoadFault}
use Rattle.compiler.specs.Faults.{of_load}
use Rattle.readers.specs.declared.read.Reading.{Reading}
use Rattle.taps.specs.declared.fault.PacketFault.{PacketFault}
use Rattle.taps.specs.declared.fault.PacketFault.TheVariants.{LongPacket, FewMarks, NothingLoaded}
use Rattle.taps.specs.Faults.{of_packet, PacketApplies}
use Rattle.taps.specs.Plain.{GraphAndPlan, PlainTap, fresh, said_by, PlainLoad, PlainRead}
use Rattle.taps.specs.Plain.PlainRead.{refused as read_refused, walked as read_walked}
use Rattle.chost.specs.Number.{number_of}
use Rattle.chost.specs.Area.{head, mark_bytes, laid, with_front}
use Rattle.chost.specs.Once.{capacity, Once, LentEnough}
use Rattle.chost.specs.Once.Once.{unloaded, unread, read}
use Rattle.chost.specs.Called.{answer_of, area_after, Called}
use Rattle.chost.proofs.Reading.{loads, Said, said}

-- what stands behind the marks is not laid out
pub behind : (answer : Result Reading Refusal) (lent : ℕ) (marks rest : List Mark) (area : List ℕ) → LentEnough lent answer → length marks ≡ lent
    → area_after answer (marks ++ rest) area ≡ area_after answer marks area
behind (Ok r) lent marks rest area f l =
    ap (λ xs. with_front (head r ++ flat_map mark_bytes xs) area) (take-append-le r.marks marks rest (omega (arith, f.few, f.enough)))
behind (Err e) lent marks rest area f l = refl

-- and marks that stand at the front are laid out
pub front_laid : (r : Reading) (ms marks rest : List Mark) (area : List ℕ) → r.marks ≡ length ms → take (length ms) marks ≡ ms
    → with_front (laid r (marks ++ rest)) area ≡ with_front (laid r ms) area
front_laid r ms marks rest area n front =
    let short : length ms ≤ length marks = omega (arith, ap length front, length-take (length ms) marks) in
    let same : take r.marks (marks ++ rest) ≡ take r.marks ms =
    ap (λ k. take k (marks ++ rest)) n ∙ take-append-le (length ms) marks rest short ∙ front ∙ sym (take_all r.marks ms (omega arith)) in
    ap (λ xs. with_front (head r ++ flat_map mark_bytes xs) area) same

-- refusals with one number and one place are one number
number_same : (a b : Refusal) → SamePlace a b → number_of a ≡ number_of b
number_same a b s = omega (arith, s.number, s.first, s.second)

-- both refuse a load alike
loads_same : (graph plan : List ℕ) {e d : LoadFault} {p q : PlainTap} → PlainLoad fresh graph plan capacity (Err e) p → PlainLoad fresh graph plan capacity (Err d) q
    → number_of (of_load e) ≡ number_of (of_load d)
loads_same graph plan {e} {d} x y = number_same (of_load e) (of_load d) (same_place (of_load e) (of_load d) (x.answers.first d y.answers.applies) (y.answers.first e x.answers.applies))

loads_apart : (graph plan : List ℕ) {e : LoadFault} {p q : PlainTap} → PlainLoad fresh graph plan capacity (Err e) p → PlainLoad fresh graph plan capacity (Ok tt) q → ⊥
loads_apart graph plan {e} x y = y.answers.0 e x.answers.applies

-- a read's refusal, where something is loaded in both
applies_same : (size n m : ℕ) (a b : Option GraphAndPlan) (its : GraphAndPlan) → n ≡ m → a ≡ Some its → (e : PacketFault) → PacketApplies size n a e → PacketApplies size m b e
applies_same size n m a b its l there LongPacket h = h
applies_same size n m a b its l there FewMarks h = omega (arith, h)
applies_same size n m a b its l there NothingLoaded h = cc

module _ (graph plan packet : List ℕ) {before other : List Mark} (l : length before ≡ length other) where
  reads_same : {e d : PacketFault} {after front : List Mark} {qs rs : List Question} {p q v w : PlainTap} → p.loaded ≡ Some (said_by graph plan) → q.loaded ≡ Some (said_by graph plan)
      → PlainRead p packet before (Err e) after qs v → PlainRead q packet other (Err d) front rs w → number_of (of_packet e) ≡ number_of (of_packet d)
  reads_same {e} {d} {p = p} {q = q} i j (read_refused x) (read_refused y) =
      number_same (of_packet e) (of_packet d)
      (least_same of_packet (PacketApplies (length packet) (length before) p.loaded) (PacketApplies (length packet) (length other) q.loaded) e d
      (applies_same (length packet) (length before) (length other) p.loaded q.loaded (said_by graph plan) l i)
      (applies_same (length packet) (length other) (length before) q.loaded p.loaded (said_by graph plan) (sym l) j) x y)

  reads_apart : {e : PacketFault} {r : Reading} {after front : List Mark} {qs rs : List Question} {p q v w : PlainTap} → p.loaded ≡ Some (said_by graph plan) → PlainRead p packet before (Err e) after qs v
      → PlainRead q packet other (Ok r) front rs w → ⊥
  reads_apart {e} {p = p} {q = q} i (read_refused x) (read_walked clear there tells) =
      clear e (applies_same (length packet) (length before) (length other) p.loaded q.loaded (said_by graph plan) l i e x.applies)

-- the same answer, and the same area
pub record Alike (r s : Result Reading Refusal) (after front : List Mark) (area : List ℕ) : Type 0 where
  pub answer : answer_of s ≡ answer_of r
  pub left : area_after s front area ≡ area_after r after area

module _ (graph plan packet area : List ℕ) where
  pub once_alike : {before other after front : List Mark} {r s : Result Reading Refusal} → length before ≡ length other → Once graph plan packet before r after → Once graph plan packet other s front
      → Alike r s after front area
  once_alike l (unloaded x) (unloaded y) = record { answer = loads_same graph plan y x; left = refl }
  once_alike l (unloaded x) (unread y k) = absurd (loads_apart graph plan x y)
  once_alike l (unloaded x) (read y k) = absurd (loads_apart graph plan x y)
  once_alike l (unread x i) (unloaded y) = absurd (loads_apart graph plan y x)
  once_alike l (unread x i) (unread y k) = record { answer = reads_same graph plan packet (sym l) (loads graph plan y) (loads graph plan x) k i; left = refl }
  once_alike l (unread x i) (read y k) = absurd (reads_apart graph plan packet l (loads graph plan x) i k)
  once_alike l (read x i) (unloaded y) = absurd (loads_apart graph plan y x)
  once_alike l (read x i) (unread y k) = absurd (reads_apart graph plan packet (sym l) (loads graph plan y) k i)
  once_alike l (read x i) (read y k) =
      let a = said graph plan packet (loads graph plan x) i in
      let b = said graph plan packet (loads graph plan y) k in
      let both = one_telling (said_by graph plan) (said_by graph plan) refl refl packet b.tells a.tells in
      record {
        answer = ap (λ (z : Reading). answer_of (Ok z)) both.2;
        left =
            ap₂ (λ (z : Reading) xs. with_front (head z ++ flat_map mark_bytes xs) area) both.2
            (marks_there b ∙ both.0 ∙ sym (marks_there a));
      }
    where
      -- the marks stand at the front
      marks_there : {lent left : List Mark} {qs : List Question} {z : Reading} → (s : Said graph plan packet lent left qs z) → take z.marks left ≡ s.ms
      marks_there {lent} {left} s = ap₂ take s.tells.marks s.written ∙ take-append_seam s.ms (drop (length s.ms) lent)

  pub called_alike : {n m : ℕ} {after left : List ℕ} → Called graph plan packet area n after → Called graph plan packet area m left → (m ≡ n) × (left ≡ after)
  called_alike x y =
      let same = once_alike (x.room_lent ∙ sym y.room_lent) x.once y.once in
      (y.answered ∙ same.answer ∙ sym x.answered, y.left ∙ same.left ∙ sym x.left)
