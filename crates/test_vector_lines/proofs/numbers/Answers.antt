use Rattle.test_vector_lines.proofs.numbers.Goals as goal

pub returns : goal.returns
returns c = rw c.answer.ensures at c.rest.ensures
