-- What a plan does and what it asks: whether anything is dropped or freed by it, and which flags it reads.
use Rattle.std.specs.Prelude.{ℕ, ◌==◌, Bool, true, false, ◌||◌, Option, Some, None}
use Rattle.drop_values.specs.Plan.{Plan, Nothing, Entire, ByFlag, InParts, OfBox, ByVariant, Plans, no_plan, a_plan, Cases, no_case, a_case}

-- something is dropped or freed, whatever the flags hold
abbrev mutual
  pub has_rung : Plan → Bool
  has_rung Nothing = false
  has_rung Entire = true
  has_rung (ByFlag flag plan) = has_rung plan
  has_rung (InParts plans) = any_rung plans
  has_rung (OfBox guard plan) = true
  has_rung (ByVariant cases) = some_rung cases

  pub any_rung : Plans → Bool
  any_rung no_plan = false
  any_rung (a_plan plan plans) = has_rung plan || any_rung plans

  pub some_rung : Cases → Bool
  some_rung no_case = false
  some_rung (a_case variant plans rest) = any_rung plans || some_rung rest

abbrev pub is_guard : Option ℕ → ℕ → Bool
is_guard None flag = false
is_guard (Some guard) flag = guard == flag

-- a plan reads a flag
abbrev mutual
  pub reads : ℕ → Plan → Bool
  reads n Nothing = false
  reads n Entire = false
  reads n (ByFlag flag plan) = (flag == n) || reads n plan
  reads n (InParts plans) = any_reads n plans
  reads n (OfBox guard plan) = is_guard guard n || reads n plan
  reads n (ByVariant cases) = some_reads n cases

  pub any_reads : ℕ → Plans → Bool
  any_reads n no_plan = false
  any_reads n (a_plan plan plans) = reads n plan || any_reads n plans

  pub some_reads : ℕ → Cases → Bool
  some_reads n no_case = false
  some_reads n (a_case variant plans rest) = any_reads n plans || some_reads n rest
