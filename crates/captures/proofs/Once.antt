-- From each offset a file has one capture: what stands at the offset is what its first record is, or how it ends.
use Rattle.std.proofs.Common.{◌≡◌, ℕ, ◌+◌, ◌-◌, ◌<◌, ◌≤◌, Bool, true, false, cond, eqb, leb, List, [], ◌∷◌, ◌++◌, length, Some, None, Ok, Err, Option, Result, sym, refl, ap, ◌∙◌, subst, append_assoc, append-nil, arith, length-append}
use Rattle.std.proofs.lemmas.Bool.{eq-eqb, ne_eqb, le-leb, lt-leb, leb-true, leb-false, eqb-true, eqb-false}
use Rattle.captures.specs.declared.fault.CaptureFault.{CaptureFault}
use Rattle.captures.specs.declared.fault.CaptureFault.TheVariants.{HeaderCut, PacketCut}
use Rattle.captures.specs.declared.format.Format.{Format}
use Rattle.captures.specs.declared.records.Entry.{Entry}
use Rattle.captures.specs.declared.records.Record.{Record}
use Rattle.captures.specs.declared.records.Records.{Records}
use Rattle.captures.specs.Records.{captured, entry_of, record_at, GivesFrom, GivesNext}
use Rattle.captures.specs.Captures.{IsRecord, Capture, whole, header_cut, packet_cut, more, Surveyed}

-- what stands at the offset of a capture: its first record, or how it ends
abbrev head_of : List Entry → Option CaptureFault → Result (Option Entry) CaptureFault
head_of (e ∷ es) end = Ok (Some e)
head_of [] None = Ok None
head_of [] (Some x) = Err x

-- no head is another's
same_end : (x y : Option CaptureFault) → head_of [] x ≡ head_of [] y → x ≡ y
same_end None None h = refl
same_end None (Some y) h = absurd (grind arith)
same_end (Some x) None h = absurd (grind arith)
same_end (Some x) (Some y) h = cc

no_record : (e : Entry) (x : Option CaptureFault) → head_of [] x ≡ Ok (Some e) → ⊥
no_record e None h = grind arith
no_record e (Some x) h = grind arith

-- what stands at an offset, by three tests
abbrev answered : Bool → Bool → Bool → ℕ → ℕ → ℕ → Entry → Result (Option Entry) CaptureFault
answered a b c o n left e = cond a (Ok None) (cond b (cond c (Ok (Some e)) (Err (PacketCut o n left))) (Err (HeaderCut o)))

-- entries are the same if all that they say is
same_entry : (e v : Entry) → e.seconds ≡ v.seconds → e.fraction ≡ v.fraction → e.original ≡ v.original
    → e.begin ≡ v.begin → e.length ≡ v.length → e.next ≡ v.next → e ≡ v
same_entry e v s f o b l n = λ i. record { seconds = s i; fraction = f i; original = o i; begin = b i; length = l i; next = n i }

module _ (m : Format) (f : List ℕ) where
  -- a record's entry is what its bytes say
  entry_is : (o : ℕ) (e : Entry) → IsRecord m f o e → e ≡ entry_of m f o
  entry_is o e h =
      let n : e.next ≡ (entry_of m f o).next = omega arith in
      same_entry e (entry_of m f o) h.seconds h.fraction h.original h.begins h.length_is n

  capture_head : {o : ℕ} {es : List Entry} {end : Option CaptureFault} → Capture m f o es end → record_at m f o ≡ head_of es end
  capture_head {o} (whole h) = rw (eq-eqb _ _ h)
  capture_head {o} (header_cut n h) = rw (ne_eqb _ _ n, lt-leb _ _ h)
  capture_head {o} (packet_cut l h) = let n : o ≡ length f → ⊥ = λ e. omega arith in rw (ne_eqb _ _ n, le-leb _ _ l, lt-leb _ _ h)
  capture_head {o} (more {e = e} h c) =
      let n : o ≡ length f → ⊥ = λ e. omega arith in
      let k : o + 16 ≤ length f = omega arith in
      let l : o + 16 + captured m f o ≤ length f = omega arith in
      rw (ne_eqb _ _ n, le-leb _ _ k, le-leb _ _ l) (ap (λ (v : Entry). Ok (Some v)) (sym (entry_is o e h)))

  -- two captures from the same offset are the same
  pub once : {o : ℕ} (es ds : List Entry) (x y : Option CaptureFault) → Capture m f o es x → Capture m f o ds y → (es ≡ ds) × (x ≡ y)
  once [] [] x y c d = (refl, same_end x y (sym (capture_head c) ∙ capture_head d))
  once [] (v ∷ ds) x y c d = absurd (no_record v x (sym (capture_head c) ∙ capture_head d))
  once (e ∷ es) [] x y c d = absurd (no_record e y (sym (capture_head d) ∙ capture_head c))
  once {o} (e ∷ es) (v ∷ ds) x y (more h c) (more k d) =
      let same : v ≡ e = entry_is o v k ∙ sym (entry_is o e h) in
      let rest = once es ds x y c (subst (λ (t : Entry). Capture m f t.next ds y) same d) in
      let both : es ≡ ds = rest.0 in (cc, rest.1)

  -- what stands at an offset gives a capture there
  pub none_ends : (o : ℕ) → record_at m f o ≡ Ok None → Capture m f o [] None
  none_ends o h = by (eqb o (length f)) (leb (o + 16) (length f)) (leb (o + 16 + captured m f o) (length f)) refl h
    where
      by : (a b c : Bool) → eqb o (length f) ≡ a → answered a b c o (captured m f o) (length f - (o + 16)) (entry_of m f o) ≡ Ok None → Capture m f o [] None
      by true b c d h = whole (eqb-true o (length f) d)
      by false true true d h = absurd (grind arith)
      by false true false d h = absurd (grind arith)
      by false false c d h = absurd (grind arith)

  pub fault_ends : (o : ℕ) (x : CaptureFault) → record_at m f o ≡ Err x → Capture m f o [] (Some x)
  fault_ends o x h = by (eqb o (length f)) (leb (o + 16) (length f)) (leb (o + 16 + captured m f o) (length f)) refl refl refl h
    where
      by : (a b c : Bool) → eqb o (length f) ≡ a → leb (o + 16) (length f) ≡ b → leb (o + 16 + captured m f o) (length f) ≡ c
          → answered a b c o (captured m f o) (length f - (o + 16)) (entry_of m f o) ≡ Err x → Capture m f o [] (Some x)
      by true b c p q r h = absurd (grind arith)
      by false true true p q r h = absurd (grind arith)
      by false true false p q r h =
          let e : PacketCut o (captured m f o) (length f - (o + 16)) ≡ x = cc in
          subst (λ (t : CaptureFault). Capture m f o [] (Some t)) e (packet_cut (leb-true _ _ q) (leb-false _ _ r))
      by false false c p q r h =
          let e : HeaderCut o ≡ x = cc in
          subst (λ (t : CaptureFault). Capture m f o [] (Some t)) e (header_cut (eqb-false _ _ p) (leb-false _ _ q))

  pub is_record : (o : ℕ) (e : Entry) → record_at m f o ≡ Ok (Some e) → IsRecord m f o e
  is_record o e h = by (eqb o (length f)) (leb (o + 16) (length f)) (leb (o + 16 + captured m f o) (length f)) refl h
    where
      by : (a b c : Bool) → leb (o + 16 + captured m f o) (length f) ≡ c
          → answered a b c o (captured m f o) (length f - (o + 16)) (entry_of m f o) ≡ Ok (Some e) → IsRecord m f o e
      by true b c p h = absurd (grind arith)
      by false true true p h =
          let k : entry_of m f o ≡ e = cc in
          subst (IsRecord m f o) k (record { seconds = refl; fraction = refl; length_is = refl; original = refl; begins = refl; ends = refl; within = leb-true _ _ p })
      by false true false p h = absurd (grind arith)
      by false false c p h = absurd (grind arith)

  -- So many records lead from one offset to another: whatever comes from there on comes behind them
  pub record Reached (from : ℕ) (count o : ℕ) : Type 0 where
    pub passed : List Entry
    pub counted : count ≡ length passed
    pub then : (es : List Entry) (end : Option CaptureFault) → Capture m f o es end → Capture m f from (passed ++ es) end

  pub reached_more : (from count o : ℕ) (e : Entry) (n : ℕ) → Reached from count o → record_at m f o ≡ Ok (Some e) → n ≡ count + 1
      → Reached from n e.next
  reached_more from count o e n r h one = record {
    passed = r.passed ++ e ∷ [];
    counted = simp length-append (omega arith);
    then = λ es end c. rw append_assoc (r.then (e ∷ es) end (more (is_record o e h) c));
  }

  -- where no more records come, all of them are known
  pub surveyed : (from count o : ℕ) (end : Option CaptureFault) → Reached from count o → Capture m f o [] end
      → Surveyed m f from (record { records = count; fault = end })
  surveyed from count o end r c =
      let all : Capture m f from r.passed end = subst (λ (es : List Entry). Capture m f from es end) (append-nil r.passed) (r.then [] end c) in
      record { entries = r.passed; capture = all; only = λ es x d. once es r.passed x end d all; counted = r.counted }

  -- So many records lead from an offset to the one where an iterator over the file stands, and each has a byte at least
  pub record Counted (from count : ℕ) (s : Records) : Type 0 where
    pub offset : ℕ
    pub stands : s.offset ≡ Some offset
    pub format : s.format ≡ m
    pub file : s.file.now ≡ f
    pub grown : count + from ≤ offset
    pub reached : Reached from count offset

  -- what a call of `next` gives there
  gives_there : (from count : ℕ) (s t : Records) (r : Option (Result Record CaptureFault)) (k : Counted from count s)
      → GivesNext s r t → GivesFrom s.format s.file (Some k.offset) r t
  gives_there from count s t r k g = subst (λ (o : Option ℕ). GivesFrom s.format s.file o r t) k.stands g

  -- a record more
  pub counted_more : (from count n : ℕ) (s t : Records) (r : Record) → Counted from count s → GivesNext s (Some (Ok r)) t
      → n ≡ count + 1 → Counted from n t
  counted_more from count n s t r k g one =
      let d = gives_there from count s t (Some (Ok r)) k g in
      let says : record_at s.format s.file.now k.offset ≡ Ok (Some r.entry) = d.0.says in
      let e : record_at m f k.offset ≡ Ok (Some r.entry) = rw (sym k.format, sym k.file) says in
      let grows : k.offset < r.entry.next = d.0.onward.grows in
      record {
        offset = r.entry.next;
        stands = ap (λ (u : Records). u.offset) d.1;
        format = ap (λ (u : Records). u.format) d.1 ∙ k.format;
        file = ap (λ (u : Records). u.file.now) d.1 ∙ k.file;
        grown = omega (arith, k.grown);
        reached = reached_more from count k.offset r.entry n k.reached e one;
      }

  -- and no more
  pub counted_all : (from count : ℕ) (s t : Records) → Counted from count s → GivesNext s None t
      → Surveyed m f from (record { records = count; fault = None })
  counted_all from count s t k g =
      let d = gives_there from count s t None k g in
      let says : record_at s.format s.file.now k.offset ≡ Ok None = d.0 in
      let e : record_at m f k.offset ≡ Ok None = rw (sym k.format, sym k.file) says in
      surveyed from count k.offset None k.reached (none_ends k.offset e)

  pub counted_fault : (from count : ℕ) (s t : Records) (x : CaptureFault) → Counted from count s → GivesNext s (Some (Err x)) t
      → Surveyed m f from (record { records = count; fault = Some x })
  counted_fault from count s t x k g =
      let d = gives_there from count s t (Some (Err x)) k g in
      let says : record_at s.format s.file.now k.offset ≡ Err x = d.0 in
      let e : record_at m f k.offset ≡ Err x = rw (sym k.format, sym k.file) says in
      surveyed from count k.offset (Some x) k.reached (fault_ends k.offset x e)
