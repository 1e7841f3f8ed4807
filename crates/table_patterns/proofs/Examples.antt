-- The index of a field by its bits, at each width: with a mark and low bits 0, 1 and all ones; without a mark where there are marks; where there are none.
use mathlib.Core.Path.{◌≡◌, refl}
use mathlib.Core.Bool.{true, false}
use Rattle.table_patterns.specs.Place.{index_value}

pub marked_4 : (index_value true 4 0x8 ≡ 0x80000000) × (index_value true 4 0x9 ≡ 0x80000001) × (index_value true 4 0xf ≡ 0x80000007)
marked_4 = (refl, refl, refl)

pub marked_8 : (index_value true 8 0x80 ≡ 0x80000000) × (index_value true 8 0x81 ≡ 0x80000001) × (index_value true 8 0xff ≡ 0x8000007f)
marked_8 = (refl, refl, refl)

pub marked_16 : (index_value true 16 0x8000 ≡ 0x80000000) × (index_value true 16 0x8001 ≡ 0x80000001) × (index_value true 16 0xffff ≡ 0x80007fff)
marked_16 = (refl, refl, refl)

pub marked_32 : (index_value true 32 0x80000000 ≡ 0x80000000) × (index_value true 32 0x80000001 ≡ 0x80000001)
    × (index_value true 32 0xffffffff ≡ 0xffffffff)
marked_32 = (refl, refl, refl)

pub unmarked : (index_value true 4 0x7 ≡ 7) × (index_value true 8 0x7f ≡ 127) × (index_value true 16 0x7fff ≡ 32767)
    × (index_value true 32 0x7fffffff ≡ 2147483647)
unmarked = (refl, refl, refl, refl)

pub no_marks : (index_value false 4 0xf ≡ 15) × (index_value false 8 0xff ≡ 255) × (index_value false 16 0xffff ≡ 65535)
    × (index_value false 32 0xffffffff ≡ 4294967295)
no_marks = (refl, refl, refl, refl)
