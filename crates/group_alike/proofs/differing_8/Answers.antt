-- The two eights in one number that is 0 where they are the same.
use Rattle.base_fields.proofs.Bits.{Bytes}
use Rattle.group_alike.proofs.Differing.{eight}
use Rattle.group_alike.proofs.differing_8.Goals as goal

pub returns : goal.returns
returns c =
    let a = c.args.a.now in
    let b = c.args.b.now in
    let bytes-a : Bytes a = λ k. (c.type_inv.a k).fits in
    let bytes-b : Bytes b = λ k. (c.type_inv.b k).fits in
    rw (c.eight_at.ensures, c.eight_at-2.ensures) (eight a b c.args.at bytes-a bytes-b)
