-- Four blocks of 8 bytes.
use Rattle.group_alike.proofs.Differing.{differing_four}
use Rattle.group_alike.proofs.differing_32.Goals as goal

pub returns : goal.returns
returns c =
    let s = c.args in
    differing_four s.a.now s.b.now s.at 8 c.differing_8.ensures c.differing_8-2.ensures c.differing_8-3.ensures c.differing_8-4.ensures
