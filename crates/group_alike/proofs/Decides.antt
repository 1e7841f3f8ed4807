-- The front of an entry decides its value: two entries of a layout have one value exactly where their fronts are as long and agree.
use mathlib.Core.Path.{◌≡◌, refl, ap, sym, ◌∙◌}
use mathlib.Core.List.{List}
use Prim.Native.Nat.{ℕ, ◌+◌, ◌-◌, ◌*◌, ◌/◌, ◌%◌, ◌<◌, ◌≤◌, zero-le}
use native.Mathlib.Decide.{dec_lt, ℕ_discrete}
use native.Mathlib.Omega.{arith}
use lib.Dec.{eqb}
use lib.ListN.{length, get_or}
use lib.Seq.{ext_get_or}
use borrow.Author.Tests.{lt-ltb, le-ltb, le-leb, lt-leb, leb-true, leb-false, eq-eqb, ne_eqb}
use Rattle.base_fields.specs.Answer.{choose}
use Rattle.base_fields.specs.Number.{be_at}
use Rattle.base_fields.proofs.Bits.{Bytes, be_at-below}
use Rattle.base_fields.proofs.Bytes.{be_at-one}
use Rattle.group_entries.specs.Decoded.{Point, OutputPair, offset_at, pair_at, roll_count_of, offsets_end, Rap as RapFields, Sap as SapFields, Rash as RashFields, Alst as AlstFields, rap_of, tele_of, sap_of, raw_of, signed16, top_bit, point_count, points_end, point_at, up_to}
use Rattle.group_entries.proofs.Extent.{rash_at, alst_at, single, several}
use Rattle.group_alike.specs.Front.{Over, Agree, front_size}
use Rattle.group_entries.specs.declared.EntryLayout.{EntryLayout}
use Rattle.group_entries.specs.declared.EntryLayout.TheVariants.{Roll, Rap, Tele, Sap, Rash, Alst, Raw}
use Rattle.base_fields.proofs.Agree.{be_of_bytes, bytes-of_be}
use Rattle.group_alike.proofs.Over.{each-of-up_to, up_to-of-each}
use Rattle.group_entries.proofs.Values.{value_of, Sized}

signed16-one : (x y : ℕ) → x < 65536 → y < 65536 → signed16 x ≡ signed16 y → x ≡ y
unfolding signed16
signed16-one x y h k e =
    elim (dec_lt x 32768) [
      | yes p ↦ elim (dec_lt y 32768) [
        | yes q ↦ let f = simp (lt-ltb _ _ p, lt-ltb _ _ q) at e in cc
        | no q ↦ let r : 32768 ≤ y = omega arith in
            let f = simp (lt-ltb _ _ p, le-ltb _ _ r) at e in let z : ◌≡◌ {A = ℕ} 0 1 = cc in absurd (omega arith)
      ]
      | no p ↦
          let o : 32768 ≤ x = omega arith in
          elim (dec_lt y 32768) [
            | yes q ↦ let f = simp (le-ltb _ _ o, lt-ltb _ _ q) at e in let z : ◌≡◌ {A = ℕ} 0 1 = cc in absurd (omega arith)
            | no q ↦ let r : 32768 ≤ y = omega arith in
                let f = simp (le-ltb _ _ o, le-ltb _ _ r) at e in
                let g : 65535 - x ≡ 65535 - y = cc in omega arith
          ]
    ]

-- the top bit of a byte is its digit at 128
top-of-bit : (x y : ℕ) → x < 256 → y < 256 → top_bit x ≡ top_bit y → x / 128 ≡ y / 128
top-of-bit x y h k e =
    elim (dec_lt x 128) [
      | yes p ↦ let q : y < 128 = leb-false 128 y (sym e ∙ lt-leb 128 x p) in omega arith
      | no p ↦ let q : 128 ≤ y = leb-true 128 y (sym e ∙ le-leb 128 x (omega arith)) in omega arith
    ]

bit-of-top : (x y : ℕ) → x < 256 → y < 256 → x / 128 ≡ y / 128 → top_bit x ≡ top_bit y
bit-of-top x y h k e =
    elim (dec_lt x 128) [
      | yes p ↦ lt-leb 128 x p ∙ sym (lt-leb 128 y (omega arith))
      | no p ↦ le-leb 128 x (omega arith) ∙ sym (le-leb 128 y (omega arith))
    ]

-- a point by number agrees, and so do its bytes
points-over : (a b : List ℕ) → Bytes a → Bytes b → point_count a ≡ point_count b → ((j : ℕ) → j < point_count a → point_at a j ≡ point_at b j)
    → (i : ℕ) → 2 ≤ i → i < points_end a → get_or a i 0 ≡ get_or b i 0
points-over a b ba bb n each i h l =
    elim (ℕ_discrete (point_count a) 1) [
      | yes one ↦
          let m = simp (eq-eqb _ _ one) at l in
          let p = sym (single a 0 one) ∙ each 0 (omega arith) ∙ single b 0 (sym n ∙ one) in
          bytes-of_be 2 a b 2 ba bb (ap (λ (q : Point). q.share) p) i h m
      | no more ↦
          let m = simp (ne_eqb _ _ more) at l in
          let k = (i - 2) / 6 in
          let p = sym (several a k more) ∙ each k (omega arith) ∙ several b k (λ e. more (n ∙ e)) in
          elim (dec_lt i (6 + 6 * k)) [
            | yes q ↦ bytes-of_be 4 a b (2 + 6 * k) ba bb (ap (λ (q : Point). q.bitrate) p) i (omega arith) (omega arith)
            | no q ↦ bytes-of_be 2 a b (6 + 6 * k) ba bb (ap (λ (q : Point). q.share) p) i (omega arith) (omega arith)
          ]
    ]

rash-agree : (a b : List ℕ) → Bytes a → Bytes b → value_of Rash a ≡ value_of Rash b → (points_end a ≡ points_end b) × ((i : ℕ) → i < points_end a + 9 → get_or a i 0 ≡ get_or b i 0)
rash-agree a b ba bb e =
    let r : rash_at a ≡ rash_at b = cc in
    let l : up_to (point_at a) 0 (point_count a) ≡ up_to (point_at b) 0 (point_count b) = cc in
    let n : point_count a ≡ point_count b = ap (λ (v : RashFields). v.points) r in
    let end : points_end a ≡ points_end b = ap (λ (m : ℕ). choose (eqb m 1) 4 (2 + 6 * m)) n in
    let each = each-of-up_to (point_at a) (point_at b) 0 (point_count a) (l ∙ ap (up_to (point_at b) 0) (sym n)) in
    let field : (w d : ℕ) → be_at w a (points_end a + d) ≡ be_at w b (points_end b + d) → Over a b (points_end a + d) w = λ w d q. bytes-of_be w a b (points_end a + d) ba bb (q ∙ ap (λ (m : ℕ). be_at w b (m + d)) (sym end)) in (
      end,
      λ i h.
          elim (dec_lt i 2) [
            | yes p ↦ bytes-of_be 2 a b 0 ba bb n i zero-le (omega arith)
            | no p ↦ elim (dec_lt i (points_end a)) [
              | yes q ↦ points-over a b ba bb n (λ j k. each j zero-le (omega arith)) i (omega arith) q
              | no q ↦ elim (dec_lt i (points_end a + 4)) [
                | yes u ↦ bytes-of_be 4 a b (points_end a) ba bb (ap (λ (v : RashFields). v.maximum) r ∙ ap (be_at 4 b) (sym end)) i (omega arith) (omega arith)
                | no u ↦ elim (dec_lt i (points_end a + 8)) [
                  | yes v ↦ field 4 4 (ap (λ (v : RashFields). v.minimum) r) i (omega arith) (omega arith)
                  | no v ↦ field 1 8 (ap (λ (v : RashFields). v.priority) r) i (omega arith) (omega arith)
                ]
              ]
            ]
          ],
    )

rash-value : (a b : List ℕ) → points_end a ≡ points_end b → ((i : ℕ) → i < points_end a + 9 → get_or a i 0 ≡ get_or b i 0) → value_of Rash a ≡ value_of Rash b
rash-value a b end o =
    let field : (w p : ℕ) → p + w ≤ points_end a + 9 → be_at w a p ≡ be_at w b p = λ w p h. be_of_bytes w a b p (λ i k l. o i (omega arith)) in
    let n : point_count a ≡ point_count b = field 2 0 (omega arith) in
    let each : (j : ℕ) → 0 ≤ j → j < 0 + point_count a → point_at a j ≡ point_at b j = λ j k l.
    elim (ℕ_discrete (point_count a) 1) [
      | yes one ↦ single a j one ∙ rw (field 2 2 (omega arith)) (sym (single b j (sym n ∙ one)))
      | no more ↦
          let m : points_end a ≡ 2 + 6 * point_count a = simp (ne_eqb _ _ more) in
          several a j more ∙ rw (field 4 (2 + 6 * j) (omega arith), field 2 (6 + 6 * j) (omega arith)) (sym (several b j (λ e. more (n ∙ e))))
    ] in
    let list : up_to (point_at a) 0 (point_count a) ≡ up_to (point_at b) 0 (point_count b) = up_to-of-each (point_at a) (point_at b) 0 (point_count a) each ∙ ap (up_to (point_at b) 0) n in
    let high = field 4 (points_end a) (omega arith) ∙ ap (be_at 4 b) end in
    let low = field 4 (points_end a + 4) (omega arith) ∙ ap (λ (m : ℕ). be_at 4 b (m + 4)) end in
    let last = field 1 (points_end a + 8) (omega arith) ∙ ap (λ (m : ℕ). be_at 1 b (m + 8)) end in
    cc

alst-agree : (a b : List ℕ) → Bytes a → Bytes b → Sized Alst a → Sized Alst b → value_of Alst a ≡ value_of Alst b → (length a ≡ length b) × ((i : ℕ) → i < length a → get_or a i 0 ≡ get_or b i 0)
unfolding offset_at pair_at
alst-agree a b ba bb sa sb e =
    let r : alst_at a ≡ alst_at b = cc in
    let l : up_to (offset_at a) 0 (roll_count_of a) ≡ up_to (offset_at b) 0 (roll_count_of b) = cc in
    let p : up_to (pair_at a) 0 (alst_at a).pairs ≡ up_to (pair_at b) 0 (alst_at b).pairs = cc in
    let m : roll_count_of a ≡ roll_count_of b = ap (λ (v : AlstFields). v.roll_count_of) r in
    let n : (alst_at a).pairs ≡ (alst_at b).pairs = ap (λ (v : AlstFields). v.pairs) r in
    let offsets = each-of-up_to (offset_at a) (offset_at b) 0 (roll_count_of a) (l ∙ ap (up_to (offset_at b) 0) (sym m)) in
    let pairs = each-of-up_to (pair_at a) (pair_at b) 0 (alst_at a).pairs (p ∙ ap (up_to (pair_at b) 0) (sym n)) in (
      omega arith,
      λ i h.
          elim (dec_lt i 2) [
            | yes p ↦ bytes-of_be 2 a b 0 ba bb m i zero-le (omega arith)
            | no p ↦ elim (dec_lt i 4) [
              | yes q ↦ bytes-of_be 2 a b 2 ba bb (ap (λ (v : AlstFields). v.first_output) r) i (omega arith) q
              | no q ↦ elim (dec_lt i (offsets_end a)) [
                | yes u ↦ let k = (i - 4) / 4 in bytes-of_be 4 a b (4 + 4 * k) ba bb (offsets k zero-le (omega arith)) i (omega arith) (omega arith)
                | no u ↦
                    let k = (i - offsets_end a) / 4 in
                    let f : pair_at a k ≡ pair_at b k = pairs k zero-le (omega arith) in
                    let g : offsets_end b ≡ offsets_end a = omega arith in
                    elim (dec_lt i (offsets_end a + 4 * k + 2)) [
                      | yes v ↦ bytes-of_be 2 a b (offsets_end a + 4 * k) ba bb (ap (λ (v : OutputPair). v.output) f ∙ ap (λ (o : ℕ). be_at 2 b (o + 4 * k)) g) i (omega arith) (omega arith)
                      | no v ↦ bytes-of_be 2 a b (offsets_end a + 4 * k + 2) ba bb (ap (λ (v : OutputPair). v.total) f ∙ ap (λ (o : ℕ). be_at 2 b (o + 4 * k + 2)) g) i (omega arith) (omega arith)
                    ]
              ]
            ]
          ],
    )

rap_fields : {v w : RapFields} → rap_of v ≡ rap_of w → v ≡ w
rap_fields e = cc

sap_fields : {v w : SapFields} → sap_of v ≡ sap_of w → v ≡ w
sap_fields e = cc

-- layouts of one byte
module _ (a b : List ℕ) where
  at_first : (f : ℕ → ℕ) → f (be_at 1 a 0) ≡ f (be_at 1 b 0) → (i : ℕ) → i < 1 → f (get_or a i 0) ≡ f (get_or b i 0)
  at_first f e i h = let z : i ≡ 0 = omega arith in rw (z, ← be_at-one a 0, ← be_at-one b 0) e

  first-at : (f : ℕ → ℕ) → ((i : ℕ) → i < 1 → f (get_or a i 0) ≡ f (get_or b i 0)) → f (be_at 1 a 0) ≡ f (be_at 1 b 0)
  first-at f o = rw (be_at-one a 0, be_at-one b 0) (o 0 (omega arith))

  module _ (ba : Bytes a) (bb : Bytes b) where
    top : top_bit (be_at 1 a 0) ≡ top_bit (be_at 1 b 0) → be_at 1 a 0 / 128 ≡ be_at 1 b 0 / 128
    top e = top-of-bit _ _ (be_at-below 1 a 0 ba) (be_at-below 1 b 0 bb) e

    bit : be_at 1 a 0 / 128 ≡ be_at 1 b 0 / 128 → top_bit (be_at 1 a 0) ≡ top_bit (be_at 1 b 0)
    bit e = bit-of-top _ _ (be_at-below 1 a 0 ba) (be_at-below 1 b 0 bb) e

pub agree-of-value : (l : EntryLayout) (a b : List ℕ) → Bytes a → Bytes b → Sized l a → Sized l b → value_of l a ≡ value_of l b
    → (front_size l a ≡ front_size l b) × Agree l a b (front_size l a)
agree-of-value Roll a b ba bb sa sb e =
    let s : signed16 (be_at 2 a 0) ≡ signed16 (be_at 2 b 0) = cc in
    (refl, λ i h. bytes-of_be 2 a b 0 ba bb (signed16-one _ _ (be_at-below 2 a 0 ba) (be_at-below 2 b 0 bb) s) i zero-le (omega arith))
agree-of-value Rap a b ba bb sa sb e =
    let v = rap_fields e in
    let h = top a b ba bb (ap (λ (r : RapFields). r.known) v) in
    let l : be_at 1 a 0 % 128 ≡ be_at 1 b 0 % 128 = ap (λ (r : RapFields). r.number) v in
    (refl, at_first a b (λ n. n) (omega arith))
agree-of-value Tele a b ba bb sa sb e = (refl, at_first a b (λ n. n / 128) (top a b ba bb (cc)))
agree-of-value Sap a b ba bb sa sb e =
    let v = sap_fields e in
    let h = top a b ba bb (ap (λ (r : SapFields). r.dependent) v) in
    let l : be_at 1 a 0 % 16 ≡ be_at 1 b 0 % 16 = ap (λ (r : SapFields). r.type) v in
    (refl, at_first a b (λ n. n / 128 * 16 + n % 16) (omega arith))
agree-of-value Rash a b ba bb sa sb e = let r = rash-agree a b ba bb e in (ap (λ (n : ℕ). n + 9) r.0, r.1)
agree-of-value Alst a b ba bb sa sb e = alst-agree a b ba bb sa sb e
agree-of-value Raw a b ba bb sa sb e = let s : a ≡ b = cc in rw s (refl, λ i h. refl)

pub value-of-agree : (l : EntryLayout) (a b : List ℕ) → Bytes a → Bytes b → front_size l a ≡ front_size l b → Agree l a b (front_size l a) → value_of l a ≡ value_of l b
value-of-agree Roll a b ba bb f o = rw (be_of_bytes 2 a b 0 (λ i h l. o i (omega arith))) refl
value-of-agree Rap a b ba bb f o = let e = first-at a b (λ n. n) o in rw e refl
value-of-agree Tele a b ba bb f o = ap tele_of (bit a b ba bb (first-at a b (λ n. n / 128) o))
value-of-agree Sap a b ba bb f o =
    let e = first-at a b (λ n. n / 128 * 16 + n % 16) o in
    let h = bit a b ba bb (omega arith) in
    let l : be_at 1 a 0 % 16 ≡ be_at 1 b 0 % 16 = omega arith in
    rw (h, l) refl
value-of-agree Rash a b ba bb f o = rash-value a b (omega arith) o
value-of-agree Alst a b ba bb f o = ap (value_of Alst) (ext_get_or 0 a b f o)
value-of-agree Raw a b ba bb f o = ap raw_of (ext_get_or 0 a b f o)
