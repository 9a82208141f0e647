use Rattle.std.proofs.Common.{◌≡◌, take, drop, length, refl, ap, ◌∙◌, rules}
use Rattle.std.proofs.lemmas.List.{take_at}
use Rattle.console.proofs.files.filled.Goals as goal

pub returns : goal.returns
returns g c =
    let full : length c.write.new.arg2 ≡ c.in_ok-bytes.bytes.len = search rules in
    let written : c.truncate.new.self.items ≡ take c.in_ok-size.size c.write.new.arg2 = c.truncate.ensures.items
    ∙ ap (take c.in_ok-size.size) (take_at c.write.new.arg2 (drop (length c.write.new.arg2) c.in_ok-bytes.bytes.items) c.in_ok-bytes.bytes.len full) in (
      c.in_ok-size.size,
      c.write.new.arg2,
      record { shown = c.as_mut_slice.result; shows = search rules; left = _; met = c.in_ok-size.ensures; leaves = refl },
      written,
    )
