-- The bytes at the front of an entry that decide its value, which of their bits, and likeness by layout.
use Rattle.std.specs.Prelude.{ℕ, zero, suc, ◌+◌, ◌*◌, ◌/◌, ◌%◌, ◌<◌, ◌≤◌, ◌≡◌, Bool, true, false, List, Result, Ok, Err, length, get_or}
use Rattle.base_fields.specs.Answer.{Answer, given, refused, and_then}
use Rattle.base_fields.specs.Number.{be_at}
use Rattle.base_fields.specs.Refusal.{number}
use Rattle.base_fields.specs.declared.refusal.Refusal.{Refusal}
use Rattle.group_entries.specs.Decoded.{points_end}
use Rattle.group_entries.specs.Layout.{decode_as}
use Rattle.group_entries.specs.Same.{same_decoded, is_same}
use Rattle.group_entries.specs.declared.EntryLayout.{EntryLayout}
use Rattle.group_entries.specs.declared.EntryLayout.TheVariants.{Roll, Rap, Tele, Sap, Rash, Alst, Raw}
use Rattle.group_alike.specs.declared.Left.{Left}
use Rattle.group_alike.specs.declared.Left.TheVariants as left

-- how many bytes from the first the decoder reads
abbrev pub front_size : EntryLayout → List ℕ → ℕ
front_size Roll s = 2
front_size Rap s = 1
front_size Tele s = 1
front_size Sap s = 1
front_size Rash s = points_end s + 9
front_size Alst s = length s
front_size Raw s = length s

-- which of a byte's bits it reads
abbrev pub significant_of : EntryLayout → ℕ → ℕ
significant_of Tele x = x / 128
significant_of Sap x = x / 128 * 16 + x % 16
significant_of Roll x = x
significant_of Rap x = x
significant_of Rash x = x
significant_of Alst x = x
significant_of Raw x = x

-- the front's length, or the decoder's refusal
abbrev pub FrontIs : Answer ℕ → EntryLayout → List ℕ → Type 0
FrontIs x l s = x ≡ and_then (decode_as l s) (λ v. given (front_size l s))

abbrev pub AllBytes : List ℕ → Type 0
AllBytes s = (k : ℕ) → get_or s k 0 < 256

-- the number in the w bytes from place p + k, lowest byte first
unfoldable pub low_first : ℕ → List ℕ → ℕ → ℕ → ℕ
low_first zero s p k = 0
low_first (suc w) s p k = be_at 1 s (p + k) + 256 * low_first w s p (suc k)

-- the w bytes from place p are the same
abbrev pub Over : List ℕ → List ℕ → ℕ → ℕ → Type 0
Over a b p w = (i : ℕ) → p ≤ i → i < p + w → get_or a i 0 ≡ get_or b i 0

-- 0 exactly where the w bytes from place p are the same
pub record ZeroWhereSame (a b : List ℕ) (p w r : ℕ) : Type 0 where
  pub same : r ≡ 0 → Over a b p w
  pub none : Over a b p w → r ≡ 0

-- the bytes from the first to before n agree in what the decoder reads
abbrev pub Agree : EntryLayout → List ℕ → List ℕ → ℕ → Type 0
Agree l a b n = (i : ℕ) → i < n → significant_of l (get_or a i 0) ≡ significant_of l (get_or b i 0)

-- the first n bytes are the same, or not
pub record GivesSame (a b : List ℕ) (n : ℕ) (r : Bool) : Type 0 where
  pub same : r ≡ true → Over a b 0 n
  pub different : r ≡ false → Over a b 0 n → ⊥

-- the layouts that read n bytes and refuse only shorter entries
abbrev pub Short : EntryLayout → ℕ → Type 0
Short Roll n = n ≡ 2
Short Rap n = n ≡ 1
Short Tele n = n ≡ 1
Short Sap n = n ≡ 1
Short Rash n = ⊥
Short Alst n = ⊥
Short Raw n = ⊥

-- whether two entries of a layout have one value
unfoldable pub alike_as : EntryLayout → List ℕ → List ℕ → Answer Bool
alike_as l a b = and_then (decode_as l a) (λ x. and_then (decode_as l b) (λ y. given (is_same (same_decoded x y))))

-- the first n bytes of both decide: all of their bits are read
pub record Decides (l : EntryLayout) (a b : List ℕ) (n : ℕ) : Type 0 where
  pub first : n ≤ length a
  pub second : n ≤ length b
  pub same : Over a b 0 n → given true ≡ alike_as l a b
  pub different : (Over a b 0 n → ⊥) → given false ≡ alike_as l a b

-- what is left to compare is enough for the answer
abbrev pub LeftOf : EntryLayout → List ℕ → List ℕ → Result Left Refusal → Type 0
LeftOf l a b (Ok (left.Told same)) = given same ≡ alike_as l a b
LeftOf l a b (Ok (left.Bytes n)) = Decides l a b n
LeftOf l a b (Err e) = refused (number e) ≡ alike_as l a b
