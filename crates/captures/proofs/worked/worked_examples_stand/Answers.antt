use Rattle.std.proofs.Common.{ℕ, List, take, refl}
use Rattle.captures.specs.declared.fault.CaptureFault.TheVariants.{HeaderCut, PacketCut}
use Rattle.captures.specs.declared.format.ByteOrder.TheVariants.{Little}
use Rattle.captures.specs.declared.format.Format.{Format}
use Rattle.captures.specs.declared.format.Resolution.TheVariants.{Micro}
use Rattle.captures.specs.Formats.{format_of}
use Rattle.captures.specs.Captures.{more}
use Rattle.captures.specs.Worked.{capture, first_entry, second_entry}
use Rattle.captures.proofs.Once.{is_record, none_ends, fault_ends}
use Rattle.captures.proofs.worked.worked_examples_stand.Goals as goal

abbrev micro : Format
micro = format_of Little Micro

abbrev cut : ℕ → List ℕ
cut n = take n capture

pub returns : goal.returns
returns c = record {
  little = refl;
  big = refl;
  upper_bits = refl;
  one_short = refl;
  no_magic = refl;
  other_link = refl;
  none = none_ends micro (cut 24) 24 refl;
  both = more (is_record micro capture 24 first_entry refl) (more (is_record micro capture 54 second_entry refl) (none_ends micro capture 73 refl));
  cut_in_packet = more (is_record micro (cut 72) 24 first_entry refl) (fault_ends micro (cut 72) 54 (PacketCut 54 3 2) refl);
  cut_in_header = more (is_record micro (cut 69) 24 first_entry refl) (fault_ends micro (cut 69) 54 (HeaderCut 54) refl);
  behind = refl;
}
