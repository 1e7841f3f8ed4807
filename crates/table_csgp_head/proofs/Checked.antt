-- The check of the patterns: what is ahead decides the whole.
use mathlib.Core.Path.{◌≡◌, refl, ap, ◌∙◌}
use mathlib.Core.Bool.{Bool, true, false}
use Prim.Native.Nat.{ℕ, suc, ◌+◌, ◌-◌, ◌*◌, ◌≤◌, ◌<◌}
use native.Mathlib.Nat.{suc-mul}
use native.Mathlib.Omega.{arith}
use mathlib.Core.List.{List, ◌∷◌}
use Rattle.base_fields.specs.Answer.{given, refused, choose, and_then}
use Rattle.table_front.specs.Front.{has_parameter}
use Rattle.table_front.proofs.Fronts.{front_rest}
use Rattle.table_front.specs.declared.TableKind.TheVariants.{Csgp}
use Rattle.table_patterns.specs.Place.{bit_count, pattern_in, Stands}
use Rattle.table_csgp_head.specs.Csgp.{count_width_of, length_width_of, pattern_count_of, stream_place, index_place, read_pairs, read_indices, read_patterns, read_from, read_all, csgp}
use Rattle.table_csgp_head.specs.Head.{Fixed, place_at, pair_behind, indices_behind, patterns_from, WholeFrom, Read, all_patterns, patterns_behind, CsgpLaid, pair_read}
use Rattle.table_csgp_head.specs.Indices.{IndicesRead}
use Rattle.table_csgp_head.specs.declared.CsgpHead.{CsgpHead}
use Rattle.table_csgp_head.specs.declared.PatternsAt.{PatternsAt}
use Rattle.table_csgp_head.proofs.Widths.{widths}
use Rattle.table_csgp_head.proofs.Reading.{ahead-empty, ahead-cut, ahead_more}

-- some patterns are passed; the refusal of the others is the whole's, and where they are read, so is the whole
pub record Checked (s : List ℕ) (here : PatternsAt) : Type 0 where
  pub refusal : {n : ℕ} → read_from here.left s here.pair here.indices ≡ refused n → read_all s ≡ refused n
  pub passed : Read here.left s here.pair here.indices → Read (pattern_count_of s) s (stream_place s) (index_place s)
  pub pairs_fit : here.pair + here.left * (length_width_of s + count_width_of s) ≤ bit_count s
  pub inside : here.indices ≤ bit_count s
  pub late : 64 ≤ here.indices

-- the bit stream begins behind the first twelve bytes
stream-late : (s : List ℕ) → 96 ≤ stream_place s
stream-late s = omega (arith, by (has_parameter Csgp s))
  where
    by : (b : Bool) → 8 ≤ choose b 12 8
    by true = omega arith
    by false = omega arith

-- behind the fixed fields, the patterns are all of a payload
pub csgp-all : (s : List ℕ) {h : CsgpHead} → Fixed s h → csgp s ≡ read_all s
unfolding csgp
csgp-all s f = front_rest Csgp s (record { short = f.short; whole = f.whole }) (read_all s)

module _ (s : List ℕ) (h : CsgpHead) (f : Fixed s h) where
  pub laid : Read (pattern_count_of s) s (stream_place s) (index_place s) → CsgpLaid s h
  laid r =
      let all = csgp-all s f in
      record {
        fixed = f;
        whole = rw (f.count, f.pairs_place, f.indices_place) r.whole;
        patterns = all ∙ rw (f.count, f.pairs_place, f.indices_place) r.given;
      }

  pub checked-all : index_place s ≤ bit_count s → Checked s (all_patterns h)
  checked-all fits = rw (f.count, f.pairs_place, f.indices_place) (record { refusal = λ e. e; passed = λ r. r; pairs_fit = fits; inside = fits; late = omega (arith, stream-late s) })

  module _ (here : PatternsAt) (c : Checked s here) where
    pub checked-end : here.left ≡ 0 → Read (pattern_count_of s) s (stream_place s) (index_place s)
    unfolding read_pairs read_patterns patterns_from WholeFrom
    checked-end e = c.passed (rw e (record { whole = tt; given = refl }))

    module _ (some : 0 < here.left) where
      one_more : here.left ≡ suc (here.left - 1)
      one_more = omega arith

      fits : here.pair + suc (here.left - 1) * (length_width_of s + count_width_of s) ≤ bit_count s
      fits = rw (← one_more) c.pairs_fit

      first : read_from here.left s here.pair here.indices ≡ read_from (suc (here.left - 1)) s here.pair here.indices
      first = ap (λ (n : ℕ). read_from n s here.pair here.indices) one_more

      pub checked-pair : pair_behind s here.pair ≤ bit_count s
      checked-pair = omega (arith, fits, suc-mul (here.left - 1) (length_width_of s + count_width_of s))

      abbrev size : ℕ
      size = (pair_read s here.pair).pattern_length

      pub checked-empty : size ≡ 0 → read_all s ≡ refused 26
      checked-empty e = c.refusal (first ∙ ahead-empty s (here.left - 1) here.pair here.indices fits e)

      module _ (d : size ≡ 0 → ⊥) where
        pub checked-cut : {n : ℕ} → read_indices size s here.indices ≡ refused n → read_all s ≡ refused n
        checked-cut e = c.refusal (first ∙ ahead-cut s (here.left - 1) here.pair here.indices fits d e)

        module _ (e : IndicesRead s here.indices size) where
          more : read_from here.left s here.pair here.indices
              ≡ and_then (read_from (here.left - 1) s (pair_behind s here.pair) (indices_behind s here.pair here.indices)) (λ rest. given (pattern_in s (place_at s here.pair here.indices) ∷ rest))
          more = first ∙ ahead_more s (here.left - 1) here.pair here.indices fits d e

          stands : Stands s (place_at s here.pair here.indices)
          stands =
              record {
                wide = omega (arith, (widths s).index.0);
                narrow = (widths s).index.1;
                some = omega arith;
                late = omega (arith, c.late);
                inside = e.inside;
                short = f.short;
              }

          read_more : Read (here.left - 1) s (pair_behind s here.pair) (indices_behind s here.pair here.indices) → Read here.left s here.pair here.indices
          unfolding WholeFrom patterns_from
          read_more r = rw one_more (record { whole = (checked-pair, stands, r.whole); given = ahead_more s (here.left - 1) here.pair here.indices fits d e ∙ rw r.given refl })

          pub checked-next : Checked s (patterns_behind h here size)
          checked-next =
              rw (f.length_bits, f.count_bits, f.index_bits)
              (record {
                refusal = λ r. c.refusal (more ∙ rw r refl);
                passed = λ r. c.passed (read_more r);
                pairs_fit = omega (arith, fits, suc-mul (here.left - 1) (length_width_of s + count_width_of s));
                inside = e.inside;
                late = omega (arith, c.late);
              })
