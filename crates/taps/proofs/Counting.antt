-- Counts that stop follow counts that do not.
use Rattle.std.proofs.Common.{◌≡◌, ℕ, ◌+◌, ◌<◌, ◌≤◌, Bool, true, false, cond, eqb, List, [], ◌∷◌, ◌++◌, map, length, Some, None, Option, sym, refl, ap, ◌∙◌, arith, add-zero}
use Rattle.std.specs.List.{sum_by}
use Rattle.std.proofs.lemmas.Bool.Decides.{nat_tests}
use Rattle.std.proofs.lemmas.Bool.{eqb-true, ne_eqb}
use Rattle.std.proofs.lemmas.List.{append-nil, length-append}
use Rattle.std.proofs.lemmas.List.Elements.{filter-append}
use Rattle.std.proofs.lemmas.List.Sums.{sum_by-append}
use Rattle.headers.specs.declared.kinds.Kind.{Kind}
use Rattle.headers.specs.declared.mark.Mark.{Mark}
use Rattle.headers.specs.Kinds.{kind_number, kind_at, kind_of}
use Rattle.headers.proofs.KindLaws.{kind_back}
use Rattle.walks.proofs.Fields.{number_small}
use Rattle.walks.specs.declared.outcome.Ending.{Ending}
use Rattle.taps.specs.declared.counts.Tally.{Tally}
use Rattle.taps.specs.declared.counts.Endings.{Endings}
use Rattle.taps.specs.declared.counts.Report.{Report}
use Rattle.taps.specs.declared.inner.Inner.{Inner}
use Rattle.taps.specs.Counts.{Counts, of_kind, with_marks, counted, capped, tally_of, endings_of, kinds, report_of, raised, one_more}
use Rattle.taps.specs.Held.{SameButCounts, tallies, report_in, tally_in, with_tally, with_raised, with_mark}

tally : (h n b m : ℕ) → h ≡ n → b ≡ m → ◌≡◌ {A = Tally} (record { headers = h; bytes = b }) (record { headers = n; bytes = m })
tally h n b m e f = cc

endings : (a b c d e f g h i j : ℕ) → a ≡ f → b ≡ g → c ≡ h → d ≡ i → e ≡ j → ◌≡◌ {A = Endings} (record { done = a; cut = b; short = c; unfit = d; dropped = e }) (record { done = f; cut = g; short = h; unfit = i; dropped = j })
endings a b c d e f g h i j p q r s t = cc

map_same : (f h : Kind → Tally) → ((k : Kind) → f k ≡ h k) → map f kinds ≡ map h kinds
map_same f h e = simp e

-- the marks of a kind, where one more is or is not of it
module _ (ms : List Mark) (m : Mark) (k : Kind) (b : Bool) (e : eqb m.kind (kind_number k) ≡ b) where
  of_kind_more : of_kind k (ms ++ (m ∷ [])) ≡ of_kind k ms ++ cond b (m ∷ []) []
  of_kind_more = filter-append (λ (n : Mark). eqb n.kind (kind_number k)) ms (m ∷ []) ∙ ap (λ z. of_kind k ms ++ cond z (m ∷ []) []) e

-- one mark more
tally_more : (ms : List Mark) (m : Mark) (c : Counts) (k : Kind) (b : Bool) → eqb m.kind (kind_number k) ≡ b
    → tally_of (with_marks (ms ++ (m ∷ [])) c) k ≡ cond b (raised m.length (tally_of (with_marks ms c) k)) (tally_of (with_marks ms c) k)
tally_more ms m c k true e =
    let more = of_kind_more ms m k true e in
    let headers = ap length more ∙ length-append (of_kind k ms) (m ∷ []) in
    let bytes = ap (sum_by (λ (n : Mark). n.length)) more ∙ sum_by-append (λ (n : Mark). n.length) (of_kind k ms) (m ∷ []) in
    tally _ _ _ _ (omega (arith, headers)) (omega (arith, bytes))
tally_more ms m c k false e =
    let more = of_kind_more ms m k false e ∙ append-nil (of_kind k ms) in
    ap (λ ns. record { headers = capped (c.headers k + length ns); bytes = capped (c.bytes k + sum_by (λ (n : Mark). n.length) ns) }) more

-- the tally of a kind is another, and the others are the same
tally_put : {S : Type 0} (kind : Kind) (i : Inner S) (w : Tally) (f h : Kind → Tally) → tallies i ≡ map f kinds → ((k : Kind) → h k ≡ cond (eqb (kind_number kind) (kind_number k)) w (f k))
    → tallies (with_tally kind i w) ≡ map h kinds
tally_put kind i w f h e is = grind (arith, is)

tally_here : {S : Type 0} (kind : Kind) (i : Inner S) (f : Kind → Tally) → tallies i ≡ map f kinds → tally_in kind i ≡ f kind
tally_here kind i f e = grind arith

-- another tally changes nothing else
put_endings : {S : Type 0} (kind : Kind) (i : Inner S) (w : Tally) → (with_tally kind i w).endings ≡ i.endings
put_endings kind i w = grind arith

put_rest : {S : Type 0} (kind : Kind) (a i : Inner S) (w : Tally) → SameButCounts a i → SameButCounts a (with_tally kind i w)
put_rest kind a i w h = record { store = grind arith; program = grind arith }

report : (ts us : List Tally) (e f : Endings) → ts ≡ us → e ≡ f → ◌≡◌ {A = Report} (record { tallies = ts; endings = e }) (record { tallies = us; endings = f })
report ts us e f p q = cc

-- no marks count nothing
pub none_marked : (c : Counts) → report_of (with_marks [] c) ≡ report_of c
none_marked c = simp add-zero

-- the kind of a number, if there is one
number_of : (n : ℕ) (k : Kind) → kind_of n ≡ Some k → n ≡ kind_number k
number_of n k e = grind (arith, nat_tests)

number_of_none : (n : ℕ) → kind_of n ≡ None → 10 < n
number_of_none n e = grind (arith, nat_tests)

number_apart : (n : ℕ) (k : Kind) → 10 < n → eqb n (kind_number k) ≡ false
number_apart n k h = ne_eqb n (kind_number k) (λ e. absurd (omega (arith, number_small k, e)))

-- of the tallies, that of a mark's kind is raised
module _ {S : Type 0} (kind k : Kind) (i : Inner S) (n l : ℕ) (f : Kind → Tally) (e : n ≡ kind_number kind) (t : tallies i ≡ map f kinds) where
  raised_there : cond (eqb n (kind_number k)) (raised l (f k)) (f k) ≡ cond (eqb (kind_number kind) (kind_number k)) (raised l (tally_in kind i)) (f k)
  raised_there = ap (λ z. cond (eqb z (kind_number k)) (raised l (f k)) (f k)) e ∙ go (eqb (kind_number kind) (kind_number k)) refl
    where
      go : (b : Bool) → eqb (kind_number kind) (kind_number k) ≡ b → cond b (raised l (f k)) (f k) ≡ cond b (raised l (tally_in kind i)) (f k)
      go true h =
          let same : kind ≡ k = sym (kind_back kind) ∙ ap kind_at (eqb-true _ _ h) ∙ kind_back k in
          ap (λ z. raised l (f z)) (sym same) ∙ ap (raised l) (sym (tally_here kind i f t))
      go false h = refl

-- a mark that is raised is counted
pub mark_counted : {S : Type 0} (i : Inner S) (ms : List Mark) (m : Mark) (c : Counts) → report_in i ≡ report_of (with_marks ms c) → report_in (with_mark m i) ≡ report_of (with_marks (ms ++ (m ∷ [])) c)
mark_counted i ms m c e = go (kind_of m.kind) refl
  where
    go : (o : Option Kind) → kind_of m.kind ≡ o → report_in (with_raised m o i) ≡ report_of (with_marks (ms ++ (m ∷ [])) c)
    go None h =
        let far = number_of_none m.kind h in
        e ∙ sym (report _ _ _ _ (map_same (tally_of (with_marks (ms ++ (m ∷ [])) c)) (tally_of (with_marks ms c)) (λ k. tally_more ms m c k false (number_apart m.kind k far))) refl)
    go (Some kind) h =
        let ts = ap (λ (r : Report). r.tallies) e in
        report _ _ _ _ (tally_put kind i _ (tally_of (with_marks ms c)) (tally_of (with_marks (ms ++ (m ∷ [])) c)) ts
        (λ k. tally_more ms m c k (eqb m.kind (kind_number k)) refl ∙ raised_there kind k i m.kind m.length (tally_of (with_marks ms c)) (number_of m.kind kind h) ts))
        (put_endings kind i _ ∙ ap (λ (r : Report). r.endings) e)

pub rest_same : {S : Type 0} (a i : Inner S) (m : Mark) → SameButCounts a i → SameButCounts a (with_mark m i)
rest_same a i m e = go (kind_of m.kind)
  where
    go : (o : Option Kind) → SameButCounts a (with_raised m o i)
    go None = e
    go (Some kind) = put_rest kind a i _ e

-- an ending that is raised is counted
endings_counted : (e : Ending) (ms : List Mark) (c : Counts) → one_more e (endings_of c) ≡ endings_of (counted ms e c)
endings_counted e ms c = grind arith

pub read_counted : {S : Type 0} (i : Inner S) (ms : List Mark) (e : Ending) (c : Counts) → report_in i ≡ report_of (with_marks ms c)
    → report_in (record i { endings = one_more e i.endings }) ≡ report_of (counted ms e c)
read_counted i ms e c h = report _ _ _ _ (ap (λ (r : Report). r.tallies) h) (ap (λ (r : Report). one_more e r.endings) h ∙ endings_counted e ms c)
