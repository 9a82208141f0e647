-- Two plain taps with the same graphs tell the same, save questions.
use Rattle.std.proofs.Common.{◌≡◌, ℕ, List, ◌∷◌, ◌++◌, map, length, take, drop, Some, None, Ok, Err, Option, Result, sym, refl, ap, ◌∙◌, subst, ap₂, arith}
use Rattle.std.proofs.lemmas.List.{length-take}
use Rattle.std.specs.List.{AllByRecursion}
use Rattle.headers.specs.declared.mark.Mark.{Mark}
use Rattle.graph_reader.specs.Decoding.{nodes_in}
use Rattle.headers.specs.Table.{minimum}
use Rattle.stores.specs.declared.question.Question.{Question}
use Rattle.walks.specs.declared.outcome.Outcome.{Outcome}
use Rattle.walks.specs.Walk.{PlainWalk}
use Rattle.compiler.specs.declared.fault.LoadFault.{LoadFault}
use Rattle.readers.specs.declared.read.Reading.{Reading}
use Rattle.taps.specs.declared.fault.PacketFault.{PacketFault}
use Rattle.taps.specs.declared.fault.PacketFault.TheVariants.{LongPacket, FewMarks, NothingLoaded}
use Rattle.taps.specs.Faults.{PacketApplies}
use Rattle.taps.proofs.Refused.{least_packet_same}
use Rattle.taps.specs.Counts.{counted, report_of}
use Rattle.taps.specs.Plain.{GraphAndPlan, PlainTap, fresh, Tells, LoadLeaves, PlainRead}
use Rattle.taps.specs.Plain.LoadLeaves.{refused as load_refused, accepted as load_accepted}
use Rattle.taps.specs.Plain.PlainRead.{refused as read_refused, walked as read_walked}
use Rattle.runs.specs.declared.calls.Call.{Call}
use Rattle.runs.specs.declared.calls.Answer.{Answer}
use Rattle.runs.specs.declared.calls.Answer.TheVariants as answer
use Rattle.runs.specs.declared.calls.Reply.{Reply}
use Rattle.runs.specs.Successions.{World, Answered, Succession}
use Rattle.runs.specs.Successions.Answered.{load, read, report}
use Rattle.runs.specs.Successions.Succession.{none as no_calls, next as next_call}
use Rattle.runs.specs.Agreement.AlikeCall.{loads, reads, reports}
use Rattle.runs.specs.Agreement.Alike.{none as no_others, next as next_alike}
use Rattle.runs.specs.Agreement.{AlikeCall, Alike, accepts, unasked, plan_free, accepts_load, seen}
use Rattle.runs.specs.Promises.{marks_told}
use Rattle.runs.proofs.Promising.{front}

-- the same graph is loaded in both, or nothing is
abbrev SameGraph : Option GraphAndPlan → Option GraphAndPlan → Type 0
SameGraph None None = Unit {0}
SameGraph None (Some k) = ⊥
SameGraph (Some l) None = ⊥
SameGraph (Some l) (Some k) = l.graph ≡ k.graph

pub record SameTap (p q : PlainTap) : Type 0 where
  pub graph : SameGraph p.loaded q.loaded
  pub counts : p.counts ≡ q.counts

pub both_fresh : SameTap fresh fresh
both_fresh = record { graph = tt; counts = refl }

same_turned : (a b : Option GraphAndPlan) → SameGraph a b → SameGraph b a
same_turned None None h = tt
same_turned None (Some k) h = absurd h
same_turned (Some l) None h = absurd h
same_turned (Some l) (Some k) h = sym h

-- both refuse a read alike
none_alike : (a b : Option GraphAndPlan) → SameGraph a b → a ≡ None → b ≡ None
none_alike None None h e = refl
none_alike None (Some k) h e = absurd h
none_alike (Some l) b h e = cc

some_alike : (a b : Option GraphAndPlan) (l k : GraphAndPlan) → SameGraph a b → a ≡ Some l → b ≡ Some k → l.graph ≡ k.graph
some_alike None b l k h e f = cc
some_alike (Some x) None l k h e f = cc
some_alike (Some x) (Some y) l k h e f = let i : x ≡ l = cc in let j : y ≡ k = cc in ap (λ (z : GraphAndPlan). z.graph) (sym i) ∙ h ∙ ap (λ (z : GraphAndPlan). z.graph) j

applies_alike : (size n m : ℕ) (a b : Option GraphAndPlan) → n ≡ m → SameGraph a b → (e : PacketFault) → PacketApplies size n a e → PacketApplies size m b e
applies_alike size n m a b l h LongPacket x = x
applies_alike size n m a b l h FewMarks x = omega (arith, x)
applies_alike size n m a b l h NothingLoaded x = none_alike a b h x

-- Reads

reading : (o u : Outcome) (m n : ℕ) → o ≡ u → m ≡ n → ◌≡◌ {A = Result Reading PacketFault} (Ok (record { outcome = o; marks = m; questions = 0 })) (Ok (record { outcome = u; marks = n; questions = 0 }))
reading o u m n e f = cc

-- one graph has one walk of a packet, whatever the plan
told_alike : (l k : GraphAndPlan) (packet : List ℕ) (ms ns : List Mark) (qs rs : List Question) (r s : Reading) → l.graph ≡ k.graph → Tells l packet ms qs r → Tells k packet ns rs s
    → (ms ≡ ns) × (r.outcome ≡ s.outcome)
told_alike l k packet ms ns qs rs r s e t u = u.only ms r.outcome (subst (λ g. PlainWalk minimum g packet ms r.outcome) e t.walks)

module _ (p q : PlainTap) (packet : List ℕ) (before other : List Mark) (l : length before ≡ length other) (st : SameTap p q) where
  there : (e : PacketFault) → PacketApplies (length packet) (length before) p.loaded e → PacketApplies (length packet) (length other) q.loaded e
  there = applies_alike (length packet) (length before) (length other) p.loaded q.loaded l st.graph

  back : (e : PacketFault) → PacketApplies (length packet) (length other) q.loaded e → PacketApplies (length packet) (length before) p.loaded e
  back = applies_alike (length packet) (length other) (length before) q.loaded p.loaded (sym l) (same_turned p.loaded q.loaded st.graph)

  -- whatever stands behind the marks that are lent
  reads_agree : {p' q' : PlainTap} {ms ns : List Mark} {r s : Result Reading PacketFault} {qs rs : List Question} (rest others : List Mark) → PlainRead p packet before r ms qs p' → PlainRead q packet other s ns rs q'
      → (unasked r ≡ unasked s) × (marks_told (answer.Read r) (ms ++ rest) ≡ marks_told (answer.Read s) (ns ++ others)) × SameTap p' q'
  reads_agree rest others (read_refused {e} x) (read_refused {e = d} y) =
      (ap (λ z. Err z) (least_packet_same (PacketApplies (length packet) (length before) p.loaded) (PacketApplies (length packet) (length other) q.loaded) e d there back x y), refl, st)
  reads_agree rest others (read_refused {e} x) (read_walked clear has t) = absurd (clear e (there e x.applies))
  reads_agree rest others (read_walked clear has t) (read_refused {e = d} y) = absurd (clear d (back d y.applies))
  reads_agree rest others (read_walked {l = g} {ms} {qs} {r} clear has t) (read_walked {l = k} {ms = ns} {qs = rs} {r = s} none its u) =
      let same = told_alike g k packet ms ns qs rs r s (some_alike p.loaded q.loaded g k st.graph has its) t u in (
        reading r.outcome s.outcome r.marks s.marks same.1 (t.marks ∙ ap length same.0 ∙ sym u.marks),
        front r.marks ms (drop (length ms) before) rest t.marks ∙ same.0 ∙ sym (front s.marks ns (drop (length ns) other) others u.marks),
        record {
          graph = st.graph;
          counts = ap₂ (λ xs (o : Outcome). counted xs o.ending p.counts) same.0 same.1 ∙ ap (counted ns s.outcome.ending) st.counts;
        },
      )

-- Loads

loads_agree : {p q p' q' : PlainTap} {file other plan its : List ℕ} {r s : Result (Unit {0}) LoadFault} → file ≡ other → SameTap p q
    → accepts (answer.Load r) ≡ accepts (answer.Load s) → LoadLeaves p file plan r p' → LoadLeaves q other its s q' → SameTap p' q'
loads_agree e st h load_refused load_refused = st
loads_agree e st h load_refused load_accepted = cc
loads_agree e st h load_accepted load_refused = cc
loads_agree e st h load_accepted load_accepted = record { graph = ap nodes_in e; counts = st.counts }

-- Calls

lent_alike : (room its : ℕ) (before other : List Mark) → room ≡ its → length before ≡ length other → length (take room before) ≡ length (take its other)
lent_alike room its before other e l = omega (arith, length-take room before, length-take its other)

calls_agree : {w v w' v' : World} {c d : Call} {before other ms ns : List Mark} {a b : Answer} → length before ≡ length other → SameTap w.tap v.tap → AlikeCall c d → accepts a ≡ accepts b
    → Answered w c before a ms w' → Answered v d other b ns v' → (plan_free a ≡ plan_free b) × (marks_told a ms ≡ marks_told b ns) × SameTap w'.tap v'.tap
calls_agree l st (loads e) h (load x) (load y) = (refl, refl, loads_agree e st h x y)
calls_agree {w} {v} {before = before} {other} l st (reads e f) h (read {packet} {room} {front = ms} {r} {qs} {next} x) (read {packet = its} {room = space} {front = ns} {r = s} y) =
    let same = subst (λ p. PlainRead w.tap p (take room before) r ms qs next) e x in
    let agree = reads_agree w.tap v.tap its.now (take room before) (take space other) (lent_alike room space before other f l) st (drop room before) (drop space other) same y in
    (ap (λ z. answer.Read z) agree.0, agree.1, agree.2)
calls_agree l st reports h report report = (ap (λ c. answer.Report (report_of c)) st.counts, refl, st)

cons_same : {X : Type 0} (x y : X) (xs ys : List X) → x ∷ xs ≡ y ∷ ys → (x ≡ y) × (xs ≡ ys)
cons_same x y xs ys e = (cc, cc)

pair_same : (a b : Answer) (ms ns : List Mark) → a ≡ b → ms ≡ ns → ◌≡◌ {A = Answer × List Mark} (a, ms) (b, ns)
pair_same a b ms ns e f = cc

-- in each place stand N marks
abbrev Sized : {N : ℕ} → List (Reply N) → Type 0
Sized {N} places = AllByRecursion (λ (r : Reply N). length r.marks ≡ N) places

pub runs_agree : {N : ℕ} {w v w' v' : World} {cs ds : List Call} {ps qs rs ss : List (Reply N)} → Sized ps → Sized qs → SameTap w.tap v.tap → Alike cs ds
    → Succession w cs ps rs w' → Succession v ds qs ss v' → map accepts_load rs ≡ map accepts_load ss → map seen rs ≡ map seen ss
runs_agree left right st no_others no_calls no_calls h = refl
runs_agree left right st (next_alike i j) (next_call {reply = r} {replies = rs} a x s) (next_call {reply = q} {replies = qs} b y t) h =
    let apart = cons_same (accepts_load r) (accepts_load q) (map accepts_load rs) (map accepts_load qs) h in
    let one = calls_agree (left.0 ∙ sym right.0) st i apart.0 a b in
    ap₂ (λ z zs. z ∷ zs) (pair_same (plan_free r.answer) (plan_free q.answer) (marks_told r.answer r.marks) (marks_told q.answer q.marks) one.0 one.1) (runs_agree left.1 right.1 one.2 j s t apart.1)
