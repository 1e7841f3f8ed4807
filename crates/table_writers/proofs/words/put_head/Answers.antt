-- Three words, one behind the other.
use mathlib.Core.Path.{sym, ◌∙◌}
use mathlib.Core.List.{[], ◌∷◌}
use Rattle.table_writers.proofs.Bytes.{words-first, words-none}
use Rattle.table_writers.proofs.words.put_head.Goals as goal

pub returns : goal.returns
returns c =
    let a = c.args in
    c.put_word-3.ensures
    ∙ rw (c.put_word-2.ensures, c.put_word.ensures)
    (sym (words-first a.flags (a.grouping_type ∷ a.count ∷ []) 0 a.out.now
    ∙ words-first a.grouping_type (a.count ∷ []) 4 _
    ∙ words-first a.count [] 8 _
    ∙ words-none 12 _))
