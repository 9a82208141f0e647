-- From a succession of calls to each part of the promise.
use Rattle.std.proofs.Common.{◌≡◌, ℕ, zero, suc, ◌+◌, ◌%◌, ◌^◌, ◌<◌, List, ◌++◌, map, length, take, drop, Ok, Err, Result, sym, refl, ap, ◌∙◌, subst, ap₂, arith, append_assoc, zero-add, add-zero, add-suc}
use Rattle.std.proofs.Math.Seq.{take-append_seam}
use Rattle.std.specs.List.{AllByRecursion}
use Rattle.refusals.specs.Least.{Answers}
use Rattle.headers.specs.declared.mark.Mark.{Mark}
use Rattle.headers.specs.Table.{minimum}
use Rattle.stores.specs.declared.question.Question.{Question}
use Rattle.stores.specs.Meaning.{Meaning, wiped}
use Rattle.stores.proofs.Fills.{appended_questions}
use Rattle.stores.proofs.Asked.{asked_questions}
use Rattle.graph_reader.specs.Decoding.{nodes_in}
use Rattle.walks.specs.Rows.{StoreRow, store_rows}
use Rattle.plans.specs.Chains.{chain_in}
use Rattle.compiler.specs.declared.fault.LoadFault.{LoadFault}
use Rattle.compiler.specs.Faults.{of_load}
use Rattle.compiler.specs.Loading.{LoadApplies}
use Rattle.readers.specs.declared.read.Reading.{Reading}
use Rattle.taps.specs.declared.fault.PacketFault.{PacketFault}
use Rattle.taps.specs.declared.tap.Tap.{Tap}
use Rattle.taps.specs.Counts.{counted}
use Rattle.taps.specs.Plain.{PlainTap, LoadLeaves, PlainRead, fresh}
use Rattle.taps.specs.Plain.LoadLeaves.{refused as load_refused, accepted as load_accepted}
use Rattle.taps.specs.Plain.PlainRead.{refused as read_refused, walked as read_walked}
use Rattle.taps.specs.Following.{after_load, questions_in}
use Rattle.runs.specs.declared.calls.Call.{Call}
use Rattle.runs.specs.declared.calls.Call.TheVariants.{Load}
use Rattle.runs.specs.declared.calls.Answer.{Answer}
use Rattle.runs.specs.declared.calls.Answer.TheVariants as answer
use Rattle.runs.specs.declared.calls.Reply.{Reply}
use Rattle.runs.specs.Successions.{World, world, Answered, RowsFit, Succession}
use Rattle.runs.specs.Successions.Answered.{load, read, report}
use Rattle.runs.specs.Successions.Succession.{none, next}
use Rattle.runs.specs.Following.{RunAs}
use Rattle.runs.specs.Promises.{marks_told, with_answer, ReportRight, ReportsAddUp, questions_told, questions_told_in, FewTold, Promised}
use Rattle.runs.proofs.Calling.{rows_held, capacity_stays}

-- Reports

-- the marks of a read are those that its answer tells, whatever stands behind them
pub front : (n : ℕ) (ms xs ys : List Mark) → n ≡ length ms → take n ((ms ++ xs) ++ ys) ≡ ms
front n ms xs ys e = ap₂ take e (append_assoc ms xs ys) ∙ take-append_seam ms (xs ++ ys)

counts_load : {p q : PlainTap} {file plan : List ℕ} {r : Result (Unit {0}) LoadFault} → LoadLeaves p file plan r q → q.counts ≡ p.counts
counts_load load_refused = refl
counts_load load_accepted = refl

counts_read : {p q : PlainTap} {packet : List ℕ} {before marks : List Mark} {r : Result Reading PacketFault} {qs : List Question} (rest : List Mark) → PlainRead p packet before r marks qs q
    → q.counts ≡ with_answer (answer.Read r) (marks_told (answer.Read r) (marks ++ rest)) p.counts
counts_read rest (read_refused least) = refl
counts_read {p = p} {before = before} rest (read_walked {l} {ms} {qs} {r} clear there told) =
    ap (λ ns. counted ns r.outcome.ending p.counts) (sym (front r.marks ms (drop (length ms) before) rest told.marks))

counts_same : {w u : World} {c : Call} {before after : List Mark} {a : Answer} → Answered w c before a after u → u.tap.counts ≡ with_answer a (marks_told a after) w.tap.counts
counts_same (load x) = counts_load x
counts_same (read {room = room} {before = before} x) = counts_read (drop room before) x
counts_same report = refl

report_right : {w u : World} {c : Call} {before after : List Mark} {a : Answer} → Answered w c before a after u → ReportRight w.tap.counts a
report_right (load x) = tt
report_right (read x) = tt
report_right report = refl

reports_add_up : {N : ℕ} {w v : World} {cs : List Call} {places rs : List (Reply N)} → Succession w cs places rs v → ReportsAddUp w.tap.counts rs
reports_add_up none = tt
reports_add_up (next {replies = rs} a h s) = (report_right a, subst (λ c. ReportsAddUp c rs) (counts_same a) (reports_add_up s))

-- Questions

few_read : {p q : PlainTap} {packet : List ℕ} {before marks : List Mark} {r : Result Reading PacketFault} {qs : List Question} → PlainRead p packet before r marks qs q → FewTold (answer.Read r)
few_read (read_refused least) = tt
few_read (read_walked clear there told) = told.few

few_told : {w u : World} {c : Call} {before after : List Mark} {a : Answer} → Answered w c before a after u → FewTold a
few_told (load x) = tt
few_told (read x) = few_read x
few_told report = tt

few_in : {N : ℕ} {w v : World} {cs : List Call} {places rs : List (Reply N)} → Succession w cs places rs v → AllByRecursion (λ (r : Reply N). FewTold r.answer) rs
few_in none = tt
few_in (next a h s) = (few_told a, few_in s)

-- as many questions are put as are told
told_put : {p q : PlainTap} {packet : List ℕ} {before marks : List Mark} {r : Result Reading PacketFault} {qs : List Question} → PlainRead p packet before r marks qs q → questions_in r ≡ length qs
told_put (read_refused least) = refl
told_put (read_walked clear there told) = told.questions

questions_loaded : (r : Result (Unit {0}) LoadFault) (file plan : List ℕ) (m : Meaning) → (after_load r file plan m).questions ≡ m.questions
questions_loaded (Ok u) file plan m = appended_questions (wiped m) (map (λ (r : StoreRow). r.row) (store_rows (nodes_in file) (chain_in plan)))
questions_loaded (Err e) file plan m = refl

questions_more : {w u : World} {c : Call} {before after : List Mark} {a : Answer} → w.store.questions < 2 ^ 64 → Answered w c before a after u
    → u.store.questions ≡ (w.store.questions + questions_told a) % 2 ^ 64
questions_more {w} fit (load {file} {plan} {r = r} x) = omega (arith, questions_loaded r file.now plan.now w.store)
questions_more {w} fit (read {qs = qs} x) = omega (arith, asked_questions w.store qs fit, told_put x)
questions_more fit report = omega arith

questions_grow : {N : ℕ} {w v : World} {cs : List Call} {places rs : List (Reply N)} → w.store.questions < 2 ^ 64 → Succession w cs places rs v
    → v.store.questions ≡ (w.store.questions + questions_told_in rs) % 2 ^ 64
questions_grow fit none = omega arith
questions_grow {w = w} fit (next {u = u} {reply = r} {replies = rs} a h s) =
    let more = questions_more fit a in omega (arith, more, questions_grow (omega (arith, more)) s)

-- the whole promise
pub promised : {S : Type 0} {N : ℕ} (meaning : S → Meaning) (s : S) (t u : Tap S) (cs : List Call) (places rs : List (Reply N)) → (meaning s).questions < 2 ^ 64 → t.inner.store ≡ s → RunAs meaning fresh t u cs places rs
    → Promised meaning s u cs places rs
promised meaning s t u cs places rs fit e h =
    let m : meaning t.inner.store ≡ meaning s = ap meaning e in
    let answers = subst (λ z. Succession (world fresh z) cs places rs h.end) m h.answered in
    record {
      last = h.end;
      answers = answers;
      reports = reports_add_up answers;
      store = h.there.store;
      rows = subst (λ (z : Meaning). RowsFit h.end.tap.loaded z.rows) (sym h.there.store) (rows_held meaning u h.end h.there);
      few = few_in answers;
      questions = ap (λ (z : Meaning). z.questions) h.there.store ∙ questions_grow fit answers;
      capacity = ap (λ (z : Meaning). z.capacity) h.there.store ∙ capacity_stays answers;
    }
