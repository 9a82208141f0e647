-- A call on a plain tap has one answer, and so a succession of calls.
use Rattle.std.proofs.Common.{◌≡◌, ℕ, List, ◌∷◌, ◌++◌, length, drop, Ok, Err, Result, sym, refl, ap, ◌∙◌, subst, ap₂}
use Rattle.headers.specs.declared.mark.Mark.{Mark}
use Rattle.headers.specs.Table.{minimum}
use Rattle.stores.specs.declared.question.Question.{Question}
use Rattle.stores.specs.Meaning.{asked_each}
use Rattle.compiler.specs.declared.fault.LoadFault.{LoadFault}
use Rattle.compiler.proofs.Faults.{least_load_same}
use Rattle.readers.specs.declared.read.Reading.{Reading}
use Rattle.taps.specs.declared.fault.PacketFault.{PacketFault}
use Rattle.taps.specs.Faults.{PacketApplies}
use Rattle.taps.specs.Counts.{counted}
use Rattle.taps.specs.Plain.{GraphAndPlan, PlainTap, counting, LoadAnswers, LoadLeaves, PlainRead}
use Rattle.taps.specs.Plain.LoadLeaves.{refused as load_refused, accepted as load_accepted}
use Rattle.taps.specs.Plain.PlainRead.{refused as read_refused, walked as read_walked}
use Rattle.taps.specs.Following.{after_load}
use Rattle.taps.proofs.Refused.{least_packet_same}
use Rattle.taps.proofs.Reading.{one_telling}
use Rattle.runs.specs.declared.calls.Call.{Call}
use Rattle.runs.specs.declared.calls.Answer.{Answer}
use Rattle.runs.specs.declared.calls.Answer.TheVariants as answer
use Rattle.runs.specs.declared.calls.Reply.{Reply}
use Rattle.runs.specs.Promises.{LoadRight, LoadsRight}
use Rattle.runs.specs.Successions.{World, world, Answered, Succession}
use Rattle.runs.specs.Successions.Answered.{load, read, report}
use Rattle.runs.specs.Successions.Succession.{none, next}

reply : {N : ℕ} (a d : Answer) (ms ns : List Mark) → a ≡ d → ms ≡ ns → ◌≡◌ {A = Reply N} (record { answer = a; marks = ms }) (record { answer = d; marks = ns })
reply a d ms ns e f = cc

load_one : (n : ℕ) {p u v : PlainTap} {file plan : List ℕ} {r s : Result (Unit {0}) LoadFault} → LoadAnswers file plan n r → LoadAnswers file plan n s
    → LoadLeaves p file plan r u → LoadLeaves p file plan s v → (r ≡ s) × (u ≡ v)
load_one n {file = file} {plan} x y (load_refused {e}) (load_refused {e = d}) = (ap (λ z. Err z) (least_load_same minimum file plan n e d x y), refl)
load_one n x y (load_refused {e}) load_accepted = absurd (y.0 e x.applies)
load_one n x y load_accepted (load_refused {e}) = absurd (x.0 e y.applies)
load_one n x y load_accepted load_accepted = (refl, refl)

read_one : {p u v : PlainTap} {packet : List ℕ} {before ms ns : List Mark} {qs rs : List Question} {r s : Result Reading PacketFault} → PlainRead p packet before r ms qs u
    → PlainRead p packet before s ns rs v → (r ≡ s) × (ms ≡ ns) × (qs ≡ rs) × (u ≡ v)
read_one {p} {packet = packet} {before} (read_refused {e} x) (read_refused {e = d} y) =
    let P = PacketApplies (length packet) (length before) p.loaded in
    (ap (λ z. Err z) (least_packet_same P P e d (λ z h. h) (λ z h. h) x y), refl, refl, refl)
read_one (read_refused {e} x) (read_walked clear there t) = absurd (clear e x.applies)
read_one (read_walked clear there t) (read_refused {e} y) = absurd (clear e y.applies)
read_one {p} {packet = packet} {before} (read_walked {l} {ms} {qs} {r} clear there t) (read_walked {l = k} {ms = ns} {qs = rs} {r = s} others its u) =
    let one : l ≡ k = cc in
    let same = one_telling l k (ap (λ (z : GraphAndPlan). z.graph) one) (ap (λ (z : GraphAndPlan). z.chain) one) packet t u in (
      ap (λ z. Ok z) same.2,
      ap (λ xs. xs ++ drop (length xs) before) same.0,
      same.1,
      ap₂ (λ xs (z : Reading). counting (counted xs z.outcome.ending p.counts) p) same.0 same.2,
    )

pub answered_one : {w u v : World} {c : Call} {before ms ns : List Mark} {a d : Answer} (n : ℕ) → LoadRight n c a → LoadRight n c d → Answered w c before a ms u → Answered w c before d ns v
    → (a ≡ d) × (ms ≡ ns) × (u ≡ v)
answered_one {w} n i j (load {file} {plan} x) (load y) =
    let one = load_one n i j x y in
    (ap (λ r. answer.Load r) one.0, refl, ap₂ (λ r q. world q (after_load r file.now plan.now w.store)) one.0 one.1)
answered_one {w} {before = before} n i j (read {room = room} x) (read y) =
    let one = read_one x y in
    (ap (λ r. answer.Read r) one.0, ap (λ ms. ms ++ drop room before) one.1, ap₂ (λ qs q. world q (asked_each w.store qs)) one.2 one.3)
answered_one n i j report report = (refl, refl, refl)

pub succession_one : {N : ℕ} {w u v : World} {cs : List Call} {places rs ss : List (Reply N)} (n : ℕ) → LoadsRight n cs rs → LoadsRight n cs ss → Succession w cs places rs u
    → Succession w cs places ss v → (rs ≡ ss) × (u ≡ v)
succession_one n i j none none = (refl, refl)
succession_one {u = u} n i j (next {call = c} {calls = cs} {place = place} {reply = r} {places = places} {replies = rs} a h s) (next {reply = q} {replies = qs} b k t) =
    let one = answered_one n i.0 j.0 a b in
    let rest = succession_one n i.1 j.1 (subst (λ z. Succession z cs places rs u) one.2 s) t in
    (ap₂ (λ x xs. x ∷ xs) (reply r.answer q.answer r.marks q.marks one.0 one.1) rest.0, rest.1)
