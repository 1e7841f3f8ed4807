-- 62; then the search, whose answer is that of all samples of a group with these patterns and entries.
use mathlib.Core.Path.{◌≡◌, refl, ap, sym, ◌∙◌}
use mathlib.Core.List.{List, []}
use mathlib.Core.Option.{Option, none, some}
use Prim.Native.Nat.{ℕ, suc, ◌-◌, ◌<◌}
use native.Mathlib.Omega.{arith}
use Rattle.std.proofs.lemmas.Result.{err_from_is_err_and}
use Rattle.base_fields.specs.Answer.{Answer, given, refused}
use Rattle.table_rows.specs.Pattern.{Pattern, covered_by}
use Rattle.table_runs.specs.Ahead.{all_in, ahead_in}
use Rattle.table_runs.proofs.Positions.{filled-ahead}
use Rattle.table_views.specs.Used.{Filled, up_to_frame}
use Rattle.listing_spec.specs.Table.{entries_of}
use Rattle.listing_spec.specs.Group.{Group}
use Rattle.listing_meanings.proofs.Found.{entry_bytes, entries-are}
use Rattle.use_decode_start.specs.Inner.{told_latest, told_search, searched_in}
use Rattle.use_decode_start.specs.From.{searched_by, StartsBy}
use Rattle.use_decode_start.proofs.From.{not_covered, told-refused, told-given, begins-early}
use Rattle.use_decode_start.proofs.start_in.Goals as goal
use Rattle.use_decode_start.proofs.start_in.Goals.{Else-covered-wanted, Else-latest-eq0}

-- a group of these patterns, which cover the sample
module _ (t wanted : ℕ) (s : List ℕ) (patterns : List Pattern) (covers : wanted < covered_by patterns) (full : Filled patterns) (g : Group) (p : g.patterns ≡ patterns) (e : entries_of s ≡ given g.entries) where
  enough : wanted < covered_by g.patterns
  enough = rw p covers

  filled : Filled g.patterns
  filled = rw p full

  refuses : {n : ℕ} → refused n ≡ searched_in t s wanted (up_to_frame wanted patterns) → searched_by t wanted g ≡ refused n
  refuses f = told-refused t wanted s g filled e enough (rw p f)

  -- this is the greatest begin
  starts : {o : Option ℕ} → given o ≡ searched_in t s wanted (up_to_frame wanted patterns) → StartsBy (searched_by t wanted g) t wanted o
  starts f = told-given t wanted s g filled e enough (rw p f)

-- past 62
module _ (c : Else-covered-wanted) where
  abbrev patterns : List Pattern
  patterns = ahead_in c.args.table_s.now c.args.table (all_in c.args.table)

  covers : c.args.frame.0 < covered_by patterns
  covers = omega (arith, c.if-covered-wanted.false, c.requires.1)

  full : Filled patterns
  full = filled-ahead c.args.table_s.now c.args.table (all_in c.args.table) c.requires.0

-- the latest begin of a sample, or 0
latest : (b : ℕ) {a : Answer (Option ℕ)} (o : Option ℕ) → told_latest b ≡ o → given (told_latest b) ≡ a → given o ≡ a
latest b o f e = ap (λ (y : Option ℕ). given y) (sym f) ∙ e

pub returns-then-covered-wanted : goal.returns-then-covered-wanted
returns-then-covered-wanted c =
    let a = c.args in
    record { gives = λ g p e. not_covered a.grouping_type a.frame.0 g (rw p (omega (arith, c.if-covered-wanted.true, c.requires.1))) }

pub returns-in_err-latest : goal.returns-in_err-latest
returns-in_err-latest c =
    let a = c.args in
    let past = (goal.at.returns-in_err-latest c).Else-covered-wanted in
    let out = err_from_is_err_and c.from_residual.result c.from_residual.ensures.1 in
    rw (out.1, out.2) record { gives = λ g p e. refuses a.grouping_type a.frame.0 a.s.now (patterns past) (covers past) (full past) g p e (sym (ap told_search c.in_err-latest.was) ∙ c.search_table.ensures) }

pub returns-then-latest-eq0 : goal.returns-then-latest-eq0
returns-then-latest-eq0 c =
    let a = c.args in
    let past = (goal.at.returns-then-latest-eq0 c).Else-covered-wanted in
    record {
      gives = λ g p e.
          starts a.grouping_type a.frame.0 a.s.now (patterns past) (covers past) (full past) g p e
          (latest c.in_ok-latest.latest none (ap told_latest c.if-latest-eq0.true) (sym (ap told_search c.in_ok-latest.was) ∙ c.search_table.ensures));
    }

-- which is a sample
begun : (c : Else-latest-eq0) (g : Group) → (let a = c.args in g.patterns ≡ ahead_in a.table_s.now a.table (all_in a.table)) → entries_of c.args.s.now ≡ given g.entries
    → StartsBy (searched_by c.args.grouping_type c.args.frame.0 g) c.args.grouping_type c.args.frame.0 (some (c.in_ok-latest.latest - 1))
begun c g p e =
    let a = c.args in
    let patterns = ahead_in a.table_s.now a.table (all_in a.table) in
    let covers : a.frame.0 < covered_by patterns = omega (arith, c.if-covered-wanted.false, c.requires.1) in
    let full : Filled patterns = filled-ahead a.table_s.now a.table (all_in a.table) c.requires.0 in
    let f : c.in_ok-latest.latest ≡ suc (c.in_ok-latest.latest - 1) = omega (arith, c.if-latest-eq0.false) in
    starts a.grouping_type a.frame.0 a.s.now patterns covers full g p e
    (latest c.in_ok-latest.latest (some (c.in_ok-latest.latest - 1)) (ap told_latest f) (sym (ap told_search c.in_ok-latest.was) ∙ c.search_table.ensures))

pub overflow_cast-result : goal.overflow_cast-result
overflow_cast-result c =
    let a = c.args in
    let some_group : Group = record { patterns = ahead_in a.table_s.now a.table (all_in a.table); rows = []; entries = entry_bytes a.s.now c.requires.2.entries } in
    omega (arith, begins-early (begun (goal.at.overflow_cast-result c).Else-latest-eq0 some_group refl (entries-are c.requires.2 0)).greatest.holds)

pub returns : goal.returns
returns c = record { gives = λ g p e. begun (goal.at.returns c).Else-latest-eq0 g p e }
