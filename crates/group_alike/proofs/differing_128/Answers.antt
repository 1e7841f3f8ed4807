-- Four blocks of 32 bytes.
use Rattle.group_alike.proofs.Differing.{differing_four}
use Rattle.group_alike.proofs.differing_128.Goals as goal

pub returns : goal.returns
returns c =
    let s = c.args in
    differing_four s.a.now s.b.now s.at 32 c.differing_32.ensures c.differing_32-2.ensures c.differing_32-3.ensures c.differing_32-4.ensures
