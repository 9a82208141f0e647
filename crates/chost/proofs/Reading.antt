-- What is answered once a plain tap has loaded and read.
use Rattle.std.specs.Option.{option_or, option_map}
use Rattle.std.proofs.Common.{◌≡◌, ℕ, ◌<◌, ◌≤◌, Bool, true, List, ◌++◌, length, take, drop, leb, Some, None, Ok, Err, Option, Result, refl, ap, ◌∙◌, ap₂, subst, inl, inr, arith}
use Rattle.std.proofs.Math.Seq.{take-append_seam}
use Rattle.std.proofs.lemmas.Bool.{cases_lt}
use Rattle.refusals.specs.declared.refusal.Refusal.{Refusal}
use Rattle.refusals.specs.Searching.{unless, fault_of}
use Rattle.headers.specs.declared.mark.Mark.{Mark}
use Rattle.headers.specs.Table.{minimum}
use Rattle.graph_reader.specs.Decoding.{nodes_in}
use Rattle.stores.specs.declared.question.Question.{Question}
use Rattle.walks.specs.declared.outcome.Outcome.{Outcome}
use Rattle.walks.specs.Rows.{store_rows, answer_by}
use Rattle.walks.proofs.Once.{one_reading}
use Rattle.walker.specs.Refusals.{most_bytes, most_marks}
use Rattle.plans.specs.Chains.{chain_in}
use Rattle.compiler.specs.declared.fault.LoadFault.{LoadFault}
use Rattle.compiler.specs.declared.program.Program.{Program}
use Rattle.compiler.specs.Faults.{of_load}
use Rattle.compiler.specs.Loading.{load_fault}
use Rattle.readers.specs.declared.read.Reading.{Reading}
use Rattle.taps.specs.declared.fault.PacketFault.{PacketFault}
use Rattle.taps.specs.declared.fault.PacketFault.TheVariants.{LongPacket, FewMarks, NothingLoaded}
use Rattle.taps.specs.Faults.{of_packet, packet_fault, is_loaded}
use Rattle.taps.specs.Following.{LoadedAs}
use Rattle.taps.specs.Plain.{GraphAndPlan, PlainTap, fresh, said_by, Tells, LoadLeaves, PlainLoad, PlainRead}
use Rattle.taps.specs.Plain.LoadLeaves.{accepted}
use Rattle.taps.specs.Plain.PlainRead.{walked}
use Rattle.taps.proofs.Reading.{reading_same}
use Rattle.chost.specs.Once.{capacity, refused_by, ReadByFiles, AnsweredBy}

left_loaded : (graph plan : List ℕ) {p : PlainTap} → LoadLeaves fresh graph plan (Ok tt) p → p.loaded ≡ Some (said_by graph plan)
left_loaded graph plan accepted = refl

-- the file's graph and the plan are loaded in place of nothing
pub loads : (graph plan : List ℕ) {p : PlainTap} → PlainLoad fresh graph plan capacity (Ok tt) p → p.loaded ≡ Some (said_by graph plan)
loads graph plan load = left_loaded graph plan load.leaves

-- so the program is there too
program_there : (l : Option GraphAndPlan) (its : GraphAndPlan) (o : Option Program) (rows : List (Question → Bool)) → LoadedAs l o rows → l ≡ Some its → is_loaded o ≡ true
program_there (Some l) its (Some program) rows h e = refl
program_there (Some l) its None rows h e = absurd h
program_there None its o rows h e = cc

fault_if : (size lent : ℕ) → Bool → Option PacketFault
fault_if size lent b = option_or (unless (leb size most_bytes) LongPacket) (option_or (unless (leb most_marks lent) FewMarks) (unless b NothingLoaded))

-- a read is refused by 10 and 11 alone
pub fault_same : (size lent : ℕ) (l : Option GraphAndPlan) (its : GraphAndPlan) (o : Option Program) (rows : List (Question → Bool)) → LoadedAs l o rows → l ≡ Some its
    → packet_fault size lent o ≡ packet_fault {X = Unit {0}} size lent (Some tt)
unfolding fault_if
fault_same size lent l its o rows h e = ap (fault_if size lent) (program_there l its o rows h e)

-- what is said of an accepted read
pub record Said (graph plan packet : List ℕ) (before after : List Mark) (qs : List Question) (r : Reading) : Type 0 where
  pub ms : List Mark
  pub tells : Tells (said_by graph plan) packet ms qs r
  pub written : after ≡ ms ++ drop (length ms) before
  pub enough : 32 ≤ length before

enough : (n : ℕ) → (n < most_marks → ⊥) → most_marks ≤ n
enough n h = elim (cases_lt n most_marks) [ inl x ↦ absurd (h x) | inr x ↦ omega arith ]

pub said : (graph plan packet : List ℕ) {before : List Mark} {r : Reading} {after : List Mark} {qs : List Question} {p q : PlainTap} → p.loaded ≡ Some (said_by graph plan)
    → PlainRead p packet before (Ok r) after qs q → Said graph plan packet before after qs r
said graph plan packet {before = before} there (walked {l} {ms} {qs} {r} clear at tells) =
    let same : l ≡ said_by graph plan = cc (at, there) in
    record { ms = ms; tells = subst (λ k. Tells k packet ms qs r) same tells; written = refl; enough = enough (length before) (clear FewMarks) }

-- it is answered as the turns read the packet
pub answered_by : (graph plan packet : List ℕ) {before after : List Mark} {qs : List Question} {r : Reading} → Said graph plan packet before after qs r
    → (ms : List Mark) (o : Outcome) (rs : List Question) → ReadByFiles graph plan packet ms o rs → AnsweredBy ms o rs (Ok r) after
answered_by graph plan packet {before} {after} {qs} {r} s ms o rs reads =
    let (m, e, q) = one_reading minimum (answer_by (store_rows (nodes_in graph) (chain_in plan))) (nodes_in graph) packet (chain_in plan) s.tells.turns reads in
    record {
      is = ap Ok (reading_same r.outcome o r.marks (length ms) r.questions (length rs) e (s.tells.marks ∙ ap length m) (s.tells.questions ∙ ap length q));
      front = ap (take (length ms)) s.written ∙ ap (λ xs. take (length ms) (xs ++ drop (length xs) before)) m ∙ take-append_seam ms (drop (length ms) before);
    }

-- what is refused, from what was found
pub refused_so : (graph plan packet : List ℕ) (lent : ℕ) {a : Option LoadFault} {b : Option PacketFault} → a ≡ load_fault minimum graph plan capacity
    → b ≡ packet_fault {X = Unit {0}} (length packet) lent (Some tt) → option_or (option_map of_load a) (option_map of_packet b) ≡ refused_by graph plan (length packet) lent
refused_so graph plan packet lent load read = ap₂ (λ x y. option_or (option_map of_load x) (option_map of_packet y)) load read

-- a call that is refused is not read
pub not_read : {X : Type 0} {e : Refusal} {o : Option Refusal} → Some e ≡ o → o ≡ None → X
not_read {e = e} is none = let z : Some e ≡ None = is ∙ none in let y : ◌≡◌ {A = ℕ} 0 1 = cc in absurd (omega arith)

pub fault_is : (r : Result Reading Refusal) (e : Refusal) → fault_of r ≡ Some e → r ≡ Err e
fault_is (Ok r) e h = let y : ◌≡◌ {A = ℕ} 0 1 = cc in absurd (omega arith)
fault_is (Err d) e h = cc
