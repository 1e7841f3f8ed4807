use Rattle.test_vector_lines.proofs.same_status.Goals as goal

pub returns : goal.returns
returns c = rw c.answer.ensures at c.told_status.ensures
