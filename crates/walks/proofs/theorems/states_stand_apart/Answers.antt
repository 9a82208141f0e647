use Rattle.walks.proofs.Store.{own_node, own_chain}
use Rattle.walks.proofs.theorems.states_stand_apart.Goals as goal

pub returns : goal.returns
returns c = λ g few chain n within q. record { node = own_node g few chain n within q; with_chain = own_chain g few chain n within q }
