-- A capture as a whole: its records one after the other, and how it ends.
use Rattle.std.specs.Prelude.{◌≡◌, ℕ, ◌+◌, ◌-◌, ◌<◌, ◌≤◌, List, [], ◌∷◌, length, Some, None, Option, ◌≢◌}
use Rattle.captures.specs.declared.fault.CaptureFault.{CaptureFault}
use Rattle.captures.specs.declared.fault.CaptureFault.TheVariants.{HeaderCut, PacketCut}
use Rattle.captures.specs.declared.format.Format.{Format}
use Rattle.captures.specs.declared.records.Entry.{Entry}
use Rattle.captures.specs.declared.survey.Survey.{Survey}
use Rattle.captures.specs.Numbers.{number_at}
use Rattle.captures.specs.Records.{captured}

-- the entry is that of the record at an offset, and all of the record lies in the file
pub record IsRecord (m : Format) (f : List ℕ) (o : ℕ) (e : Entry) : Type 0 where
  pub seconds : e.seconds ≡ number_at m.order f o
  pub fraction : e.fraction ≡ number_at m.order f (o + 4)
  pub length_is : e.length ≡ number_at m.order f (o + 8)
  pub original : e.original ≡ number_at m.order f (o + 12)
  pub begins : e.begin ≡ o + 16
  pub ends : e.next ≡ e.begin + e.length
  pub within : e.next ≤ length f

-- The records of a file from an offset on, and the fault that ends them, if one does: at the file's end there are no more; a
-- record that is cut ends them; and any other is followed by those that begin where it ends
pub data Capture (m : Format) (f : List ℕ) : ℕ → List Entry → Option CaptureFault → Type 0 where
  whole : {o : ℕ} → o ≡ length f → Capture m f o [] None
  header_cut : {o : ℕ} → (o ≢ length f) → length f < o + 16 → Capture m f o [] (Some (HeaderCut o))
  packet_cut : {o : ℕ} → o + 16 ≤ length f → length f < o + 16 + captured m f o
      → Capture m f o [] (Some (PacketCut o (captured m f o) (length f - (o + 16))))
  more : {o : ℕ} {e : Entry} {es : List Entry} {end : Option CaptureFault} → IsRecord m f o e → Capture m f e.next es end
      → Capture m f o (e ∷ es) end

-- What `count_records` says: there are these records, and no others
pub record Surveyed (m : Format) (f : List ℕ) (o : ℕ) (s : Survey) : Type 0 where
  pub entries : List Entry
  pub capture : Capture m f o entries s.fault
  pub only : (es : List Entry) (end : Option CaptureFault) → Capture m f o es end → (es ≡ entries) × (end ≡ s.fault)
  pub counted : s.records ≡ length entries
