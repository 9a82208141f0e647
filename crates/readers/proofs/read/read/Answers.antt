use Rattle.readers.proofs.Tracing.{reads_as}
use Rattle.readers.proofs.read.read.Goals as goal

pub returns-clause-read : goal.returns-clause-read
returns-clause-read g c = λ minimum gr chain pr short room.
    let h = c.read.ensures in
    reads_as minimum gr chain c.args.program.now (g.S.Store.meaning c.args.store.now).rows pr c.args.packet.now short c.args.marks.now c.read.new.marks c.read.result room h.is h.marks
