-- Plans with other numbers of flags.
use Rattle.std.specs.Prelude.{◌≡◌, ℕ, List, Option, Some, None, length, option_map, slice_get, slice_index_or, unwrap_or}
use Rattle.drop_values.specs.Plan.{Plan, Nothing, Entire, ByFlag, InParts, OfBox, ByVariant, Plans, no_plan, a_plan, Cases, no_case, a_case}
use Rattle.drop_blocks.specs.View.{plan_in}
use Rattle.drop_blocks.specs.declared.plan.Plan as code
use Rattle.drop_ends.specs.declared.decided.Decided.{Decided}

-- the number of a flag in a table; one that has none there stays
abbrev pub number_in : (table : List (Option ℕ)) → ℕ → ℕ
number_in table flag = unwrap_or (slice_index_or table flag None) flag

module _ (number : ℕ → ℕ) where
  -- each flag gets another number
  abbrev mutual
    pub renumbered : Plan → Plan
    renumbered Nothing = Nothing
    renumbered Entire = Entire
    renumbered (ByFlag flag inner) = ByFlag (number flag) (renumbered inner)
    renumbered (InParts parts) = InParts (all_renumbered parts)
    renumbered (OfBox guard inside) = OfBox (option_map number guard) (renumbered inside)
    renumbered (ByVariant cases) = ByVariant (each_renumbered cases)

    pub all_renumbered : Plans → Plans
    all_renumbered no_plan = no_plan
    all_renumbered (a_plan inner rest) = a_plan (renumbered inner) (all_renumbered rest)

    pub each_renumbered : Cases → Cases
    each_renumbered no_case = no_case
    each_renumbered (a_case variant parts rest) = a_case variant (all_renumbered parts) (each_renumbered rest)

  -- what is decided of a drop, with other numbers of flags
  abbrev pub IsRenumbered : Decided → Decided → Type 0
  IsRenumbered Decided.Dead after = after ≡ Decided.Dead
  IsRenumbered Decided.Plain after = after ≡ Decided.Plain
  IsRenumbered (Decided.Planned made) after =
      (now : code.Plan) × (after ≡ Decided.Planned now) × (plan_in now ≡ renumbered (plan_in made))

  -- and of each of some drops
  pub record AreRenumbered (before after : List Decided) : Type 0 where
    pub long : length after ≡ length before
    pub each : (n : ℕ) (how now : Decided) → slice_get before n ≡ Some how → slice_get after n ≡ Some now →
        IsRenumbered how now
