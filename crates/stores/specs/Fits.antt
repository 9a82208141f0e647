-- Which questions a row fits.
use Rattle.std.specs.Prelude.{Bool, ◌&&◌, ◌==◌, bit_and}
use Rattle.stores.specs.declared.question.Question.{Question}
use Rattle.stores.specs.declared.question.Row.{Row}

-- those of its state whose key's bits under the mask are the value
abbrev pub fits : Row → Question → Bool
fits r q = q.state.number == r.state.number && bit_and q.key r.mask == r.value
