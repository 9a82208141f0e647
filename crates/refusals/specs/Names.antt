-- The names of the layers.
use Rattle.std.specs.Prelude.{ℕ, List, codes}
use Rattle.refusals.specs.declared.refusal.Layer.{Layer}
use Rattle.refusals.specs.declared.refusal.Layer.TheVariants.{File, Graph, Plan, Store, Read, Walk, Writing, Field, Payload}

-- a layer's name, as text
abbrev pub layer_name : Layer → List ℕ
layer_name File = codes "file"
layer_name Graph = codes "graph"
layer_name Plan = codes "plan"
layer_name Store = codes "store"
layer_name Read = codes "read"
layer_name Walk = codes "walk"
layer_name Writing = codes "writing"
layer_name Field = codes "field"
layer_name Payload = codes "payload"
