-- A case is a definition of document 01 at an input, and the answer that it must have; a table of cases holds when every row does.
use Rattle.std.specs.Prelude.{ℕ, zero, suc, ◌≡◌, List, [], ◌∷◌}

pub data Case : Type 1 where
  gives : {A : Type 0} → A → A → Case

abbrev pub Holds : Case → Type 0
Holds (gives found expected) = found ≡ expected

abbrev pub AllHold : List Case → Type 0
AllHold [] = Unit
AllHold (c ∷ cs) = Holds c × AllHold cs

-- row k of a table, counted from 0
abbrev pub case_at : ℕ → List Case → Case
case_at k [] = gives {A = ℕ} 0 0
case_at zero (c ∷ cs) = c
case_at (suc k) (c ∷ cs) = case_at k cs
