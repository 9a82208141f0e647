-- A read follows the plain tap's.
use Rattle.std.proofs.Common.{◌≡◌, ℕ, ◌≤◌, Bool, List, [], ◌++◌, length, take, drop, Some, None, Ok, Err, Option, sym, refl, ap, ◌∙◌, subst}
use Rattle.headers.specs.Part.{HasItsFields}
use Rattle.std.specs.List.{AllByRecursion}
use Rattle.refusals.specs.Least.{Least}
use Rattle.std.proofs.Math.Seq.{take-append_seam}
use Rattle.headers.specs.declared.mark.Mark.{Mark}
use Rattle.headers.specs.declared.kinds.Kind.{Kind}
use Rattle.headers.specs.Table.{minimum, standard_table}
use Rattle.graphs.specs.View.{NodeView}
use Rattle.walks.specs.declared.outcome.Outcome.{Outcome}
use Rattle.walks.specs.Rows.{Plan, store_rows, answer_by}
use Rattle.walks.specs.Turns.{Reads}
use Rattle.walks.proofs.Once.{one_reading}
use Rattle.walks.proofs.Fields.{marks_have}
use Rattle.headers.proofs.FieldPlaces.{fields_lie_inside}
use Rattle.stores.specs.declared.question.Question.{Question}
use Rattle.stores.specs.Meaning.{Meaning, asked_each}
use Rattle.stores.proofs.Asked.{asked_rows}
use Rattle.compiler.specs.declared.program.Program.{Program}
use Rattle.readers.specs.declared.read.Reading.{Reading}
use Rattle.readers.specs.Reading.{Programmed, ReadAs}
use Rattle.taps.specs.declared.fault.PacketFault.{PacketFault}
use Rattle.taps.specs.declared.inner.Inner.{Inner}
use Rattle.taps.specs.declared.tap.Tap.{Tap}
use Rattle.taps.specs.Faults.{of_packet, PacketApplies}
use Rattle.taps.specs.Counts.{Counts, report_of, counted}
use Rattle.taps.specs.Held.{report_in, SameButCounts}
use Rattle.taps.specs.Plain.{GraphAndPlan, PlainTap, counting, Tells, PlainRead}
use Rattle.taps.specs.Plain.PlainRead.{refused, walked}
use Rattle.taps.specs.Following.{LoadedAs, Follows, ReadFollows}
use Rattle.taps.proofs.Refused.{none_applies}

-- where the tap has nothing loaded, the plain one has not
pub none_loaded : (l : Option GraphAndPlan) (q : Option Program) (rows : List (Question → Bool)) → LoadedAs l q rows → q ≡ None → l ≡ None
none_loaded None q rows h e = refl
none_loaded (Some l) None rows h e = absurd h
none_loaded (Some l) (Some q) rows h e = cc

pub some_loaded : (l : Option GraphAndPlan) (q : Option Program) (rows : List (Question → Bool)) (program : Program) → LoadedAs l q rows → q ≡ Some program
    → (its : GraphAndPlan) × (l ≡ Some its) × Programmed minimum its.graph its.chain program rows
some_loaded None None rows program h e = cc
some_loaded None (Some q) rows program h e = absurd h
some_loaded (Some l) None rows program h e = absurd h
some_loaded (Some l) (Some q) rows program h e = let same : q ≡ program = cc in (l, refl, subst (λ z. Programmed minimum l.graph l.chain z rows) same h)

pub reading_same : (o u : Outcome) (m n q k : ℕ) → o ≡ u → m ≡ n → q ≡ k
    → ◌≡◌ {A = Reading} (record { outcome = o; marks = m; questions = q }) (record { outcome = u; marks = n; questions = k })
reading_same o u m n q k e f h = cc

-- a packet is told in one way, and puts the same questions
pub one_telling : (l k : GraphAndPlan) → l.graph ≡ k.graph → l.chain ≡ k.chain → (packet : List ℕ) {ms ns : List Mark} {qs rs : List Question} {r s : Reading}
    → Tells l packet ms qs r → Tells k packet ns rs s → (ms ≡ ns) × (qs ≡ rs) × (r ≡ s)
one_telling l k g c packet {ms} {ns} {qs} {rs} {r} {s} t u =
    let turns : Reads minimum k.graph k.chain packet ms r.outcome qs =
    subst (λ x. Reads minimum k.graph x packet ms r.outcome qs) c (subst (λ x. Reads minimum x l.chain packet ms r.outcome qs) g t.turns) in
    let (m, o, q) = one_reading minimum (answer_by (store_rows k.graph k.chain)) k.graph packet k.chain turns u.turns in
    (m, q, reading_same r.outcome s.outcome r.marks s.marks r.questions s.questions o (t.marks ∙ ap length m ∙ sym u.marks) (t.questions ∙ ap length q ∙ sym u.questions))

module _ {S : Type 0} (meaning : S → Meaning) (t : Tap S) (packet : List ℕ) (before : List Mark) (p : PlainTap) (f : Follows meaning t p) where
  pub read_refused : (e : PacketFault) → Least of_packet (PacketApplies (length packet) (length before) p.loaded) e
      → ReadFollows p packet before before (Err e) (meaning t.inner.store) (meaning t.inner.store) (Follows meaning t)
  read_refused e least = record { next = p; questions = []; plain = refused least; store = refl; follows = f }

  -- the marks at the front, by their number
  front : (n : ℕ) (ms rest after : List Mark) → n ≡ length ms → after ≡ ms ++ rest → take n after ≡ ms
  front n ms rest after many is = ap (λ k. take k after) many ∙ ap (take (length ms)) is ∙ take-append_seam ms rest

  module _ (program : Program) (there : t.inner.program ≡ Some program) (s : S) (i : Inner S) (after : List Mark) (qs : List Question) (r : Reading)
      (asked : meaning s ≡ asked_each (meaning t.inner.store) qs)
      (reads : (fewest : Kind → ℕ) (g : List NodeView) (chain : Plan) → Programmed fewest g chain program (meaning t.inner.store).rows → length packet ≤ 9600 → 32 ≤ length before
      → ReadAs fewest g chain packet before after qs r)
      (counts : (c : Counts) → report_in t.inner ≡ report_of c → report_in i ≡ report_of (counted (take r.marks after) r.outcome.ending c))
      (rest : SameButCounts (record t.inner { store = s }) i) (short : length packet ≤ 9600) (enough : 32 ≤ length before) where
    its : (l : GraphAndPlan) × (p.loaded ≡ Some l) × Programmed minimum l.graph l.chain program (meaning t.inner.store).rows
    its = some_loaded p.loaded t.inner.program (meaning t.inner.store).rows program f.loaded there

    said : ReadAs minimum its.0.graph its.0.chain packet before after qs r
    said = reads minimum its.0.graph its.0.chain its.2 short enough

    same_front : take r.marks after ≡ said.ms
    same_front = front r.marks said.ms (drop (length said.ms) before) after said.marks said.written

    same_store : meaning i.store ≡ asked_each (meaning t.inner.store) qs
    same_store = ap meaning rest.store ∙ asked

    pub read_walked : ReadFollows p packet before after (Ok r) (meaning t.inner.store) (meaning i.store) (Follows meaning (record { inner = i }))
    read_walked =
        let l = its.0 in
        let next = counting (counted said.ms r.outcome.ending p.counts) p in
        let tells : Tells l packet said.ms qs r =
        record { walks = said.walks; only = said.only; marks = said.marks; turns = said.turns; questions = said.questions; few = said.few; plainly = said.plainly } in
        let same = ap (λ (m : Meaning). m.rows) same_store ∙ asked_rows (meaning t.inner.store) qs in
        record {
          next = next;
          questions = qs;
          plain =
              subst (λ xs. PlainRead p packet before (Ok r) xs qs next) (sym said.written)
              (walked (none_applies (length packet) (length before) p.loaded l short enough its.1) its.1 tells);
          store = same_store;
          follows = record {
            loaded = subst (λ q. LoadedAs p.loaded q (meaning i.store).rows) (sym rest.program) (subst (LoadedAs p.loaded t.inner.program) (sym same) f.loaded);
            counts = counts p.counts f.counts ∙ ap (λ xs. report_of (counted xs r.outcome.ending p.counts)) same_front;
          };
        }

    -- the marks are whole headers of the packet
    pub marks_have_fields : AllByRecursion (HasItsFields standard_table (length packet)) (take r.marks after)
    marks_have_fields =
        subst (AllByRecursion (HasItsFields standard_table (length packet))) (sym same_front) (marks_have standard_table fields_lie_inside its.0.graph packet said.walks)
