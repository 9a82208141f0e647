-- The format that a file's first four bytes name, in numbers and in bytes.
use Rattle.std.specs.Option.{option_or, option_map}
use Rattle.std.proofs.Common.{◌≡◌, ℕ, ◌<◌, ◌≤◌, Bool, true, false, cond, eqb, leb, List, [], ◌∷◌, length, take, is_some, Some, None, Ok, Err, Decides, Option, Result, sym, refl, ap, ◌∙◌, subst, inl, inr, arith, lit<, MatchResult}
use Rattle.std.proofs.lemmas.List.{get_or_past, get_or-take}
use Rattle.std.proofs.lemmas.Bool.{cases_lt, both_ways, leb-true, leb-false, eqb-true, eqb-false}
use Rattle.std.proofs.lemmas.Bool.Decides.{nat_tests}
use Rattle.captures.specs.declared.fault.CaptureFault.{CaptureFault}
use Rattle.captures.specs.declared.fault.CaptureFault.TheVariants.{NotCapture, NotEthernet}
use Rattle.captures.specs.declared.format.ByteOrder.{ByteOrder}
use Rattle.captures.specs.declared.format.ByteOrder.TheVariants.{Big, Little}
use Rattle.captures.specs.declared.format.Resolution.{Resolution}
use Rattle.captures.specs.declared.format.Resolution.TheVariants.{Micro, Nano}
use Rattle.captures.specs.declared.format.Format.{Format}
use Rattle.captures.specs.Numbers.{at, spelled, number_at}
use Rattle.captures.specs.Formats.{format_of, magic, bytes_of, resolution_of, format_in, link_type, opened_as, opened, Begins, Opens, Refused, short, strange, foreign}

take_four : (f : List ℕ) → 4 ≤ length f → take 4 f ≡ at f 0 ∷ at f 1 ∷ at f 2 ∷ at f 3 ∷ []
take_four [] h = absurd (omega arith)
take_four (a ∷ []) h = absurd (omega arith)
take_four (a ∷ b ∷ []) h = absurd (omega arith)
take_four (a ∷ b ∷ c ∷ []) h = absurd (omega arith)
take_four (a ∷ b ∷ c ∷ d ∷ f) h = refl

-- a byte that is not 0 lies in the file
there : (f : List ℕ) (i : ℕ) → 1 ≤ at f i → i < length f
there f i h = elim (cases_lt i (length f)) [ inl l ↦ l | inr l ↦ absurd (omega (arith, get_or_past f i 0 l)) ]

-- the first four bytes, if the last of them is not 0
front : (f : List ℕ) (a b c d : ℕ) → at f 0 ≡ a → at f 1 ≡ b → at f 2 ≡ c → at f 3 ≡ d → 1 ≤ d → take 4 f ≡ a ∷ b ∷ c ∷ d ∷ []
front f a b c d p q r s h =
    let l : 3 < length f = there f 3 (omega arith) in
    let t : take 4 f ≡ at f 0 ∷ at f 1 ∷ at f 2 ∷ at f 3 ∷ [] = take_four f (omega arith) in cc

-- four bytes that spell the same number are the same
same_bytes : (a b c d p q r s : ℕ) → a < 256 → b < 256 → c < 256 → d < 256 → p < 256 → q < 256 → r < 256 → s < 256
    → spelled a b c d ≡ spelled p q r s → (a ≡ p) × (b ≡ q) × (c ≡ r) × (d ≡ s)
same_bytes a b c d p q r s ha hb hc hd hp hq hr hs e = (omega arith, omega arith, omega arith, omega arith)

-- the resolution that a number names is that of the magic number
magic_from_resolution : (n : ℕ) (r : Resolution) → resolution_of n ≡ Some r → n ≡ magic r
magic_from_resolution n Micro h = grind (arith, nat_tests)
magic_from_resolution n Nano h = grind (arith, nat_tests)

-- the first four bytes give the format
format_in_front : (f : List ℕ) → format_in f ≡ format_in (take 4 f)
format_in_front f =
    let e0 : at (take 4 f) 0 ≡ at f 0 = get_or-take 4 f 0 0 (lit< tt) in
    let e1 : at (take 4 f) 1 ≡ at f 1 = get_or-take 4 f 1 0 (lit< tt) in
    let e2 : at (take 4 f) 2 ≡ at f 2 = get_or-take 4 f 2 0 (lit< tt) in
    let e3 : at (take 4 f) 3 ≡ at f 3 = get_or-take 4 f 3 0 (lit< tt) in
    rw (e0, e1, e2, e3)

format_in_bytes : (o : ByteOrder) (r : Resolution) → format_in (bytes_of o r) ≡ Some (format_of o r)
format_in_bytes Big Micro = refl
format_in_bytes Big Nano = refl
format_in_bytes Little Micro = refl
format_in_bytes Little Nano = refl

pub format_from_begins : (f : List ℕ) (m : Format) → Begins f m → format_in f ≡ Some m
format_from_begins f m h = format_in_front f ∙ (ap format_in h ∙ format_in_bytes m.order m.resolution)

module _ (f : List ℕ) (small : (i : ℕ) → at f i < 256) where
  -- the number that the first four bytes spell gives the bytes
  begins_from_number : (o : ByteOrder) (r : Resolution) → number_at o f 0 ≡ magic r → Begins f (format_of o r)
  begins_from_number Big Micro h =
      let e = same_bytes (at f 0) (at f 1) (at f 2) (at f 3) 0xA1 0xB2 0xC3 0xD4 (small 0) (small 1) (small 2) (small 3) (omega arith) (omega arith) (omega arith) (omega arith) h
      in front f 0xA1 0xB2 0xC3 0xD4 e.0 e.1 e.2 e.3 (omega arith)
  begins_from_number Big Nano h =
      let e = same_bytes (at f 0) (at f 1) (at f 2) (at f 3) 0xA1 0xB2 0x3C 0x4D (small 0) (small 1) (small 2) (small 3) (omega arith) (omega arith) (omega arith) (omega arith) h
      in front f 0xA1 0xB2 0x3C 0x4D e.0 e.1 e.2 e.3 (omega arith)
  begins_from_number Little Micro h =
      let e = same_bytes (at f 3) (at f 2) (at f 1) (at f 0) 0xA1 0xB2 0xC3 0xD4 (small 3) (small 2) (small 1) (small 0) (omega arith) (omega arith) (omega arith) (omega arith) h
      in front f 0xD4 0xC3 0xB2 0xA1 e.3 e.2 e.1 e.0 (omega arith)
  begins_from_number Little Nano h =
      let e = same_bytes (at f 3) (at f 2) (at f 1) (at f 0) 0xA1 0xB2 0x3C 0x4D (small 3) (small 2) (small 1) (small 0) (omega arith) (omega arith) (omega arith) (omega arith) h
      in front f 0x4D 0x3C 0xB2 0xA1 e.3 e.2 e.1 e.0 (omega arith)

  -- the format gives the first four bytes
  pub begins_from_format : (m : Format) → format_in f ≡ Some m → Begins f m
  begins_from_format m h = by (resolution_of (number_at Big f 0)) (resolution_of (number_at Little f 0)) refl refl h
    where
      by : (p q : Option Resolution) → resolution_of (number_at Big f 0) ≡ p → resolution_of (number_at Little f 0) ≡ q
          → option_or (option_map (format_of Big) p) (option_map (format_of Little) q) ≡ Some m → Begins f m
      by (Some r) q d e h =
          let s : format_of Big r ≡ m = cc in subst (Begins f) s (begins_from_number Big r (magic_from_resolution (number_at Big f 0) r d))
      by None (Some r) d e h =
          let s : format_of Little r ≡ m = cc in subst (Begins f) s (begins_from_number Little r (magic_from_resolution (number_at Little f 0) r e))
      by None None d e h = absurd (grind arith)

  -- a file with no format begins with none of the four
  pub strange_from_none : format_in f ≡ None → (m : Format) → Begins f m → ⊥
  strange_from_none h m b = let e : format_in f ≡ Some m = format_from_begins f m b in grind arith

  -- whether there is a format tells whether the file begins with one of the four
  pub begins_by_some : (b : Bool) → b ≡ is_some (format_in f) → Decides b ((m : Format) × Begins f m)
  begins_by_some b e = (λ t. by (format_in f) refl (sym e ∙ t), λ p. e ∙ ap is_some (format_from_begins f p.0 p.1))
    where
      by : (o : Option Format) → format_in f ≡ o → is_some o ≡ true → (m : Format) × Begins f m
      by (Some m) h t = (m, begins_from_format m h)
      by None h t = absurd (both_ways false refl t)

  -- what `open` answers, in words
  opened_says : MatchResult (opened f) (Opens f) (Refused f)
  opened_says = by (format_in f) refl
    where
      linked : (m : Format) → Begins f m → (b c : Bool) → leb 24 (length f) ≡ b → eqb (link_type m f) 1 ≡ c
          → MatchResult (cond b (cond c (Ok m) (Err (NotEthernet (link_type m f)))) (Err NotCapture)) (Opens f) (Refused f)
      linked m h true true d e = record { begins = h; long = leb-true 24 (length f) d; ethernet = eqb-true (link_type m f) 1 e }
      linked m h true false d e = foreign m h (leb-true 24 (length f) d) (eqb-false (link_type m f) 1 e)
      linked m h false c d e = short (leb-false 24 (length f) d)

      by : (o : Option Format) → format_in f ≡ o → MatchResult (opened_as f o) (Opens f) (Refused f)
      by (Some m) h = linked m (begins_from_format m h) (leb 24 (length f)) (eqb (link_type m f) 1) refl refl
      by None h = strange (strange_from_none h)

  open_says : (r : Result Format CaptureFault) → r ≡ opened f → MatchResult r (Opens f) (Refused f)
  open_says r e = rw e opened_says

  pub opens_says : (m : Format) → Ok m ≡ opened f → Opens f m
  opens_says m e = open_says (Ok m) e

  pub refused_says : (x : CaptureFault) → Err x ≡ opened f → Refused f x
  refused_says x e = open_says (Err x) e
