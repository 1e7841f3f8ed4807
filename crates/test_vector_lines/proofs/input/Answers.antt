use Rattle.test_vector_lines.proofs.input.Goals as goal

pub returns : goal.returns
returns c = cc
