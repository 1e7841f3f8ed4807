-- The search of A1 on small films, computed.
use mathlib.Core.Path.{◌≡◌, refl}
use mathlib.Core.List.{List, [], ◌∷◌, ◌++◌}
use Prim.Native.Nat.{ℕ}
use lib.ListN.{replicate}
use Rattle.base_fields.specs.Answer.{Answer, given, refused}
use Rattle.base_fields.specs.Span.{Span}
use Rattle.atom_tree.specs.Atom.{header_at, child_at}
use Rattle.atom_path.specs.Path.{stbl_at, bodies_from, bodies_in, at_level, descend}
use Rattle.base_fields.specs.Number.{be_at}

abbrev u32 : ℕ → List ℕ
u32 n = 0 ∷ 0 ∷ 0 ∷ n ∷ []

abbrev moov : ℕ → List ℕ → List ℕ
moov n b = u32 n ++ (0x6d ∷ 0x6f ∷ 0x6f ∷ 0x76 ∷ b)

abbrev trak : ℕ → List ℕ → List ℕ
trak n b = u32 n ++ (0x74 ∷ 0x72 ∷ 0x61 ∷ 0x6b ∷ b)

abbrev mdia : ℕ → List ℕ → List ℕ
mdia n b = u32 n ++ (0x6d ∷ 0x64 ∷ 0x69 ∷ 0x61 ∷ b)

abbrev minf : ℕ → List ℕ → List ℕ
minf n b = u32 n ++ (0x6d ∷ 0x69 ∷ 0x6e ∷ 0x66 ∷ b)

abbrev stbl : ℕ → List ℕ → List ℕ
stbl n b = u32 n ++ (0x73 ∷ 0x74 ∷ 0x62 ∷ 0x6c ∷ b)

abbrev free : ℕ → List ℕ → List ℕ
free n b = u32 n ++ (0x66 ∷ 0x72 ∷ 0x65 ∷ 0x65 ∷ b)

abbrev at : ℕ → ℕ → Answer Span
at p n = given (record { place = p; size = n })

abbrev Is : List ℕ → ℕ → Answer Span → Type 0
Is s k a = stbl_at s k ≡ a

cases :
    Is [] 0 (refused 60)
    × Is (moov 9 []) 0 (refused 11)
    × Is (free 9 []) 0 (refused 60)
    × Is (moov 0 []) 0 (refused 60)
    × Is (moov 8 [] ++ (0 ∷ [])) 0 (refused 1)
    × Is (moov 16 (trak 8 [])) 0 (refused 61)
    × Is (moov 16 (trak 8 [])) 1 (refused 60)
    × Is (moov 17 (trak 8 [] ++ (0 ∷ []))) 0 (refused 1)
    × Is (moov 40 (trak 32 (mdia 24 (minf 16 (stbl 8 []))))) 0 (at 40 0)
    × Is (moov 41 (trak 33 (mdia 25 (minf 17 (stbl 9 (7 ∷ []))))) ++ free 9 []) 0 (at 40 1)
    × Is (moov 42 (trak 34 (mdia 26 (minf 18 (stbl 9 (7 ∷ []) ++ (0 ∷ []))))) ++ free 8 []) 0 (at 40 1)
    -- an open stbl in the last byte of its minf: empty, behind its header
    × Is (moov 0 (trak 0 (mdia 0 (minf 9 (stbl 0 (replicate 108 0)))))) 0 (at 40 0)
    -- the same without the bytes of its header
    × Is (moov 33 (trak 25 (mdia 17 (minf 9 (0 ∷ []))))) 0 (refused 1)
    -- sized, in the last byte of its minf: 6
    × Is (moov 0 (trak 0 (mdia 0 (minf 9 (stbl 8 (replicate 2156 0)))))) 0 (refused 6)
    -- open ones all the way down end with the given bytes
    × Is (moov 0 (trak 0 (mdia 0 (minf 0 (stbl 0 (1 ∷ 2 ∷ 3 ∷ [])))))) 0 (at 40 3)
    -- the second moov does not count
    × Is (moov 8 [] ++ moov 40 (trak 32 (mdia 24 (minf 16 (stbl 8 []))))) 0 (refused 60)
unfolding stbl_at descend at_level bodies_from bodies_in header_at child_at be_at
cases = (refl, refl, refl, refl, refl, refl, refl, refl, refl, refl, refl, refl, refl, refl, refl, refl)
