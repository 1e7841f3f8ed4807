use Rattle.test_vector_lines.proofs.answer.Goals as goal

pub returns : goal.returns
returns c = rw (c.input_place.ensures.0, c.input_size.ensures.0) at c.rest.ensures
