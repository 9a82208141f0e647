-- A call on a tap is answered as on the plain tap that it follows, and so a succession of calls.
use Rattle.std.proofs.Common.{◌≡◌, ℕ, ◌+◌, min, Bool, List, [], ◌∷◌, ◌++◌, map, length, get_or, take, drop, Some, None, Ok, Err, Option, Result, sym, refl, subst, ap, ◌∙◌, add-zero, arith}
use Rattle.std.proofs.lemmas.List.{take_min, drop_min, drop-drop, drop-set-lt, get_or-drop}
use Rattle.std.proofs.Math.ListN.{set}
use Rattle.std.specs.Borrow.{Bor}
use Rattle.std.specs.List.{AllByRecursion}
use Rattle.headers.specs.declared.mark.Mark.{Mark}
use Rattle.stores.specs.declared.question.Question.{Question}
use Rattle.stores.specs.Meaning.{Meaning, wiped, asked_each}
use Rattle.stores.proofs.Fills.{appended_capacity}
use Rattle.stores.proofs.Asked.{asked_capacity}
use Rattle.graph_reader.specs.Decoding.{nodes_in}
use Rattle.walks.specs.Rows.{StoreRow, store_rows}
use Rattle.plans.specs.Chains.{chain_in}
use Rattle.compiler.specs.declared.fault.LoadFault.{LoadFault}
use Rattle.compiler.specs.declared.program.Program.{Program}
use Rattle.readers.specs.declared.read.Reading.{Reading}
use Rattle.taps.specs.declared.fault.PacketFault.{PacketFault}
use Rattle.taps.specs.declared.tap.Tap.{Tap}
use Rattle.taps.specs.Counts.{report_of}
use Rattle.taps.specs.Plain.{GraphAndPlan, PlainTap, PlainRead}
use Rattle.taps.specs.Following.{LoadedAs, Follows, LoadFollows, ReadFollows, after_load}
use Rattle.runs.specs.declared.calls.Call.{Call}
use Rattle.runs.specs.declared.calls.Call.TheVariants.{Load, Read, Report}
use Rattle.runs.specs.declared.calls.Answer.{Answer}
use Rattle.runs.specs.declared.calls.Answer.TheVariants as answer
use Rattle.runs.specs.declared.calls.Reply.{Reply}
use Rattle.runs.specs.Successions.{World, world, Answered, RowsFit, RowsHeld, Succession}
use Rattle.runs.specs.Successions.Answered.{load, read, report}
use Rattle.runs.specs.Successions.Succession.{none, next}
use Rattle.runs.specs.Promises.{LoadRight, LoadsRight}
use Rattle.runs.specs.Following.{InWorld, AnsweredAs, AnsweredOnly, RunAs, RunOnly}
use Rattle.runs.proofs.One.{answered_one, succession_one}

module _ {S : Type 0} (meaning : S → Meaning) (p : PlainTap) (t u : Tap S) where
  pub load_answered : (file plan : Bor (List ℕ)) (marks : List Mark) (r : Result (Unit {0}) LoadFault) → LoadFollows p file.now plan.now (meaning t.inner.store).capacity r (Follows meaning u)
      → meaning u.inner.store ≡ after_load r file.now plan.now (meaning t.inner.store) → AnsweredAs meaning p t u (Load file plan) marks (answer.Load r) marks
  load_answered file plan marks r h e = record { end = world h.next (after_load r file.now plan.now (meaning t.inner.store)); answered = load h.plain.leaves; loads = h.plain.answers; there = record { follows = h.follows; store = e } }

  -- a read is lent n marks
  pub read_answered : (packet : Bor (List ℕ)) (room n : ℕ) (r : Result Reading PacketFault) (before front : List Mark) → n ≡ min room (length before)
      → ReadFollows p packet.now (take n before) front r (meaning t.inner.store) (meaning u.inner.store) (Follows meaning u)
      → AnsweredAs meaning p t u (Read packet room) before (answer.Read r) (front ++ drop n before)
  read_answered packet room n r before front is h =
      let end = world h.next (asked_each (meaning t.inner.store) h.questions) in
      let lent = ap (λ k. take k before) is ∙ take_min room before in
      let behind = ap (λ k. drop k before) is ∙ drop_min room before in
      record {
        end = end;
        answered = subst (λ ms. Answered (world p (meaning t.inner.store)) (Read packet room) before (answer.Read r) (front ++ ms) end) (sym behind) (read (subst (λ ms. PlainRead p packet.now ms r front h.questions h.next) lent h.plain));
        loads = tt;
        there = record { follows = h.follows; store = h.store };
      }

  pub answered_only : (call : Call) (before : List Mark) (a : Answer) (after : List Mark) → AnsweredAs meaning p t u call before a after → AnsweredOnly meaning p t u call before a after
  answered_only call before a after h other marks end x right =
      let one = answered_one (meaning t.inner.store).capacity h.loads right h.answered x in
      (sym one.0, sym one.1, subst (InWorld meaning u) one.2 h.there)

  pub run_only : {N : ℕ} (cs : List Call) (places rs : List (Reply N)) → RunAs meaning p t u cs places rs → RunOnly meaning p t u cs places rs
  run_only cs places rs h others end x right =
      let one = succession_one (meaning t.inner.store).capacity h.loads right h.answered x in
      (sym one.0, subst (InWorld meaning u) one.1 h.there)

-- a report changes nothing
pub report_answered : {S : Type 0} (meaning : S → Meaning) (p : PlainTap) (t : Tap S) (marks : List Mark) → Follows meaning t p
    → AnsweredAs meaning p t t Report marks (answer.Report (report_of p.counts)) marks
report_answered meaning p t marks f = record { end = world p (meaning t.inner.store); answered = report; loads = tt; there = record { follows = f; store = refl } }

-- where a tap is, the store's rows are right
rows_fit : (l : Option GraphAndPlan) (q : Option Program) (rows : List (Question → Bool)) → LoadedAs l q rows → RowsFit l rows
rows_fit None q rows h = tt
rows_fit (Some l) None rows h = absurd h
rows_fit (Some l) (Some q) rows h = h.holds

pub rows_held : {S : Type 0} (meaning : S → Meaning) (t : Tap S) (w : World) → InWorld meaning t w → RowsHeld w
rows_held meaning t w h = subst (λ (m : Meaning). RowsFit w.tap.loaded m.rows) h.store (rows_fit w.tap.loaded t.inner.program (meaning t.inner.store).rows h.follows.loaded)

-- no call moves the capacity
capacity_loaded : (r : Result (Unit {0}) LoadFault) (file plan : List ℕ) (m : Meaning) → (after_load r file plan m).capacity ≡ m.capacity
capacity_loaded (Ok u) file plan m = appended_capacity (wiped m) (map (λ (r : StoreRow). r.row) (store_rows (nodes_in file) (chain_in plan)))
capacity_loaded (Err e) file plan m = refl

capacity_same : {w u : World} {c : Call} {before after : List Mark} {a : Answer} → Answered w c before a after u → u.store.capacity ≡ w.store.capacity
capacity_same {w = w} (load {file} {plan} {r} x) = capacity_loaded r file.now plan.now w.store
capacity_same {w = w} (read {qs = qs} x) = asked_capacity w.store qs
capacity_same report = refl

pub capacity_stays : {N : ℕ} {w v : World} {cs : List Call} {places rs : List (Reply N)} → Succession w cs places rs v → v.store.capacity ≡ w.store.capacity
capacity_stays none = refl
capacity_stays (next a h s) = capacity_stays s ∙ capacity_same a

-- one call more
succession_more : {N : ℕ} {w u v : World} {cs : List Call} {places rs : List (Reply N)} (c : Call) (place r : Reply N) → Succession w cs places rs u
    → Answered u c place.marks r.answer r.marks v → RowsHeld v → Succession w (cs ++ (c ∷ [])) (places ++ (place ∷ [])) (rs ++ (r ∷ [])) v
succession_more c place r none a h = next a h none
succession_more c place r (next b k s) a h = next b k (succession_more c place r s a h)

loads_more : {N : ℕ} (n : ℕ) (cs : List Call) (rs : List (Reply N)) (c : Call) (r : Reply N) → LoadsRight n cs rs → LoadRight n c r.answer → LoadsRight n (cs ++ (c ∷ [])) (rs ++ (r ∷ []))
loads_more n [] [] c r h k = (k, tt)
loads_more n [] (q ∷ rs) c r h k = absurd h
loads_more n (d ∷ cs) [] c r h k = absurd h
loads_more n (d ∷ cs) (q ∷ rs) c r h k = (h.0, loads_more n cs rs c r h.1 k)

size_more : {N : ℕ} (places : List (Reply N)) (place : Reply N) → AllByRecursion (λ (r : Reply N). length r.marks ≡ N) places → length place.marks ≡ N
    → AllByRecursion (λ (r : Reply N). length r.marks ≡ N) (places ++ (place ∷ []))
size_more [] place h e = (e, tt)
size_more (r ∷ rs) place h e = (h.0, size_more rs place h.1 e)

module _ {S : Type 0} (meaning : S → Meaning) (p : PlainTap) (t : Tap S) where
  pub run_none : (N : ℕ) → Follows meaning t p → RunAs meaning {N = N} p t t [] [] []
  run_none N f = record { end = world p (meaning t.inner.store); answered = none; loads = tt; size = tt; there = record { follows = f; store = refl } }

  pub run_more : {N : ℕ} (u v : Tap S) (cs : List Call) (places rs : List (Reply N)) (c : Call) (place r : Reply N) → RunAs meaning p t u cs places rs
      → ((q : PlainTap) → Follows meaning u q → AnsweredAs meaning q u v c place.marks r.answer r.marks) → length place.marks ≡ N
      → RunAs meaning p t v (cs ++ (c ∷ [])) (places ++ (place ∷ [])) (rs ++ (r ∷ []))
  run_more u v cs places rs c place r h all size =
      let a = all h.end.tap h.there.follows in
      record {
        end = a.end;
        answered = succession_more c place r h.answered (subst (λ m. Answered (world h.end.tap m) c place.marks r.answer r.marks a.end) h.there.store a.answered) (rows_held meaning v a.end a.there);
        loads =
            loads_more (meaning t.inner.store).capacity cs rs c r h.loads
            (subst (λ n. LoadRight n c r.answer) (ap (λ (m : Meaning). m.capacity) h.there.store ∙ capacity_stays h.answered) a.loads);
        size = size_more places place h.size size;
        there = a.there;
      }

-- the places behind are as they were, and so is the one that comes next
pub next_place : {X : Type 0} (xs ys : List X) (i : ℕ) (d : X) → drop i xs ≡ drop i ys → get_or xs i d ≡ get_or ys i d
next_place xs ys i d e =
    ap (λ k. get_or xs k d) (sym (add-zero i)) ∙ sym (get_or-drop i xs 0 d) ∙ ap (λ zs. get_or zs 0 d) e ∙ get_or-drop i ys 0 d ∙ ap (λ k. get_or ys k d) (add-zero i)

pub rest_more : {X : Type 0} (xs ys : List X) (i : ℕ) (x : X) → drop i xs ≡ drop i ys → drop (i + 1) (set xs i x) ≡ drop (i + 1) ys
rest_more xs ys i x e = drop-set-lt (i + 1) xs i x (omega arith) ∙ sym (drop-drop 1 i xs) ∙ ap (drop 1) e ∙ drop-drop 1 i ys
