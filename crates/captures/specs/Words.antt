-- What is wrong with a capture, in words.
use Rattle.std.specs.Prelude.{ℕ, List, ◌++◌, codes, decimal}
use Rattle.captures.specs.declared.fault.CaptureFault.{CaptureFault}
use Rattle.captures.specs.declared.fault.CaptureFault.TheVariants.{NotCapture, NotEthernet, HeaderCut, PacketCut}

-- the record that a capture is cut in, by its offset
abbrev pub cut_inside : ℕ → List ℕ
cut_inside offset = codes "the capture is cut inside the record at " ++ decimal offset

-- a fault, as text; of a cut packet, how many bytes are there and how many the record names
abbrev pub fault_text : CaptureFault → List ℕ
fault_text NotCapture = codes "the file has no whole header of a capture"
fault_text (NotEthernet link) = codes "the capture's link type is " ++ decimal link ++ codes ", and not 1, Ethernet"
fault_text (HeaderCut offset) = cut_inside offset
fault_text (PacketCut offset captured there) =
    cut_inside offset ++ codes ": " ++ decimal there ++ codes " of " ++ decimal captured ++ codes " bytes are there"
