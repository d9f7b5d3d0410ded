-- The stores into flags behind an action: then each flag is true exactly where its path's own part is present.
use Rattle.std.proofs.Common.{◌≡◌, ℕ, zero, suc, ◌+◌, ◌<◌, ◌≤◌, ◌==◌, ◌&&◌, not, Bool, true, false, List, [], ◌∷◌, ◌++◌, length, Option, Some, None, if◌then◌else◌, slice_get, refl, ap, sym, ◌∙◌, subst, append_assoc, arith}
use Rattle.std.specs.Prelude.{unwrap_or}
use Rattle.std.specs.Option.{option_or}
use Rattle.std.proofs.lemmas.Bool.Decides.{Decides-eqb}
use Rattle.std.proofs.lemmas.Option.{none-some}
use Rattle.mir_ty.specs.declared.ty.Ty.{Ty}
use Rattle.mir_ty.specs.declared.ty.TyId.{TyId}
use Rattle.mir_ty.specs.ItemTable.{ItemTable, type_at}
use Rattle.cfg_graph.specs.declared.graph.Body.{Body}
use Rattle.cfg_graph.specs.declared.place.Place as graph
use Rattle.cfg_graph.specs.declared.statement.Stmt.{Stmt}
use Rattle.cfg_graph.specs.Moves.Actions.{at_line}
use Rattle.cfg_graph.specs.Moves.Gone.{PathAction, counts, is_at_or_above, is_gone_after, is_param, last_left, leaves_gone, left_by}
use Rattle.cfg_graph.specs.Places.{named}
use Rattle.cfg_graph.specs.Uses.{PlaceUse}
use Rattle.cfg_meaning.specs.Walk.{◌>>=◌, renamed, naming, stmts_do}
use Rattle.store_model.specs.Concrete.Effects.{concrete_effects}
use Rattle.store_model.specs.Concrete.Location.{Setting}
use Rattle.store_model.specs.Concrete.State.{State, Bodies}
use Rattle.store_model.specs.Effects.{Out, Effects}
use Rattle.store_model.specs.Places.Place.{Place}
use Rattle.store_model.specs.Values.Datum.{Datum, Truth}
use Rattle.drop_values.specs.Like.{body_at, Flags, Like, strict_setting, Extends}
use Rattle.drop_values.proofs.Flags.{with_flag}
use Rattle.drop_values.proofs.Counting.{after, after-sum}
use Rattle.drop_values.proofs.Setting.{set-acts}
use Rattle.drop_elaborate.proofs.Walks.{unplaced}
use Rattle.drop_elaborate.specs.Elaborated.{flag_at, set_flag, first_flags, flags_below, flags_if, flags_of_use, flags_of_uses}

-- ---- what one more action tells

if-same : {A : Type 0} (b : Bool) (x : A) → (if b then x else x) ≡ x
if-same true x = refl
if-same false x = refl

or-or : {A : Type 0} (a b c : Option A) → option_or (option_or a b) c ≡ option_or a (option_or b c)
or-or None b c = refl
or-or (Some x) b c = refl

-- the actions before a statement, after those before the first of them

module _ (items : ItemTable) (body : Body) where
  last-more : (place : Place) (acts : List PathAction) (action : PathAction) → last_left items body place
      (acts ++ action ∷ []) ≡ option_or (left_by items body place action) (last_left items body place acts)
  last-more place [] action = refl_or (left_by items body place action)
    where
      refl_or : (o : Option Bool) → option_or None o ≡ option_or o None
      refl_or None = refl
      refl_or (Some x) = refl
  last-more place (first ∷ acts) action =
      ap (λ o. option_or o (left_by items body place first)) (last-more place acts action)
      ∙ or-or (left_by items body place action) (last_left items body place acts) (left_by items body place first)

  abbrev gone : List PathAction → Place → Bool
  gone acts place = is_gone_after items body acts place

  -- where it is no action on the place or a container, nothing changes
  pub gone-kept : (acts : List PathAction) (action : PathAction) (place : Place) →
      left_by items body place action ≡ None → gone (acts ++ action ∷ []) place ≡ gone acts place
  gone-kept acts action place e = ap (λ o. unwrap_or o (not (is_param items body place.local)))
      (last-more place acts action ∙ ap (λ o. option_or o (last_left items body place acts)) e)

  pub gone-left : (acts : List PathAction) (action : PathAction) (place : Place) (g : Bool) →
      left_by items body place action ≡ Some g → gone (acts ++ action ∷ []) place ≡ g
  gone-left acts action place g e = ap (λ o. unwrap_or o (not (is_param items body place.local)))
      (last-more place acts action ∙ ap (λ o. option_or o (last_left items body place acts)) e)

module _ (items : ItemTable) (local_ty local_ty' : (body local : ℕ) → Option TyId)
    (extends : Extends local_ty local_ty') (number depth : ℕ) (outer : Flags) (body : Body) (flagged : List Place)
    (flag_ty : TyId) (flag_is : type_at items flag_ty ≡ Some Ty.Bool)
    (added : (n : ℕ) → n < length flagged → (local_ty number (flag_at items body flagged n) ≡ None)
    × (local_ty' number (flag_at items body flagged n) ≡ Some flag_ty))
    (run' : Bodies) (bound : ℕ) where
  abbrev strict : Setting
  strict = strict_setting items local_ty'

  abbrev q : Effects State
  q = naming unplaced (concrete_effects strict run' bound)

  abbrev node : ℕ → ℕ
  node line = 0

  abbrev flag : ℕ → ℕ
  flag n = flag_at items body flagged n

  abbrev chosen : Bool → Bool → Datum → Datum
  chosen at present old = if at then Truth present else old

  other_flag : (n m : ℕ) → (n ≡ m → ⊥) → (flags : Flags) (value : Datum) → with_flag flags depth
      (flag m) value depth (flag n) ≡ flags depth (flag n)
  other_flag n m d flags value = ap (λ b. if (depth == depth) && b then value else flags depth (flag n)) differ
      ∙ never (depth == depth)
    where
      never : (b : Bool) → (if b && false then value else flags depth (flag n)) ≡ flags depth (flag n)
      never true = refl
      never false = refl

      differ : (flag n == flag m) ≡ false
      differ = no (flag n == flag m) refl
        where
          no : (b : Bool) → (flag n == flag m) ≡ b → b ≡ false
          no false e = refl
          no true e = absurd (d (let x = (Decides-eqb (flag n) (flag m)).0 e in omega (arith, x)))

  other_depth : (m d k : ℕ) (flags : Flags) (value : Datum) → (d == depth) ≡ false →
      with_flag flags depth m value d k ≡ flags d k
  other_depth m d k flags value e = ap (λ b. if b && (k == m) then value else flags d k) e

  this_flag : (n : ℕ) (flags : Flags) (value : Datum) → with_flag flags depth (flag n) value depth (flag n) ≡ value
  this_flag n flags value =
      ap (λ b. if b && (flag n == flag n) then value else flags depth (flag n)) ((Decides-eqb depth depth).1 refl)
      ∙ ap (λ b. if b then value else flags depth (flag n)) ((Decides-eqb (flag n) (flag n)).1 refl)

  -- the flags at and below a place are set
  pub record Set (place : Place) (present : Bool) (paths : List Place) (k line : ℕ) (more : List Stmt)
      (rest : State → Out State) (flags : Flags) (w w' : State) : Type 0 where
    pub new : Flags
    pub v' : State
    pub line' : ℕ
    pub does : stmts_do q node line (flags_below items body flagged place present paths k ++ more)
        rest w' ≡ stmts_do q node line' more rest v'
    pub like : Like local_ty new w v'
    pub later : (n : ℕ) (path : Place) → slice_get paths n ≡ Some path → new depth (flag (after k n)) ≡ chosen
        (is_at_or_above place path) present (flags depth (flag (after k n)))
    pub earlier : (m : ℕ) → m < k → new depth (flag m) ≡ flags depth (flag m)
    pub others : (d k : ℕ) → (d == depth) ≡ false → new d k ≡ flags d k

  pub sets : (place : Place) (present : Bool) (paths : List Place) (k line : ℕ) (more : List Stmt)
      (rest : State → Out State) (flags : Flags) (w w' : State) → k + length paths ≤ length flagged →
      Like local_ty flags w w' → length w.activations ≡ suc depth → body_at depth w ≡ Some number →
      Set place present paths k line more rest flags w w'
  sets place present [] k line more rest flags w w' l like deep is =
      record {
        new = flags;
        v' = w';
        line' = line;
        does = refl;
        like = like;
        later =
            λ n path e. absurd (none-some path e);
        earlier = λ m h. refl;
        others = λ d k h. refl;
      }
  sets place present (path ∷ paths) k line more rest flags w w' l like deep is =
      by (is_at_or_above place path) refl (λ flags1 v1 line1 like1. sets place present paths
      (suc k) line1 more rest flags1 w v1 (omega (arith, l)) like1 deep is)
    where
      Again : Type 0
      Again = (flags1 : Flags) (v1 : State) (line1 : ℕ) → Like local_ty flags1 w v1 →
          Set place present paths (suc k) line1 more rest flags1 w v1

      below_k : k < length flagged
      below_k = omega (arith, l)

      past : (n : ℕ) → after (suc k) n ≡ k → ⊥
      past n e = let x = after-sum (suc k) n in omega (arith, x, e)

      by : (b : Bool) → is_at_or_above place path ≡ b → Again → Set place present (path ∷ paths)
          k line more rest flags w w'
      by false e again =
          let s = again flags w' line like in record {
            new = s.new;
            v' = s.v';
            line' = s.line';
            does = ap (λ b. stmts_do q node line (((if b then set_flag items body flagged k present ∷ [] else [])
                ++ flags_below items body flagged place present paths (suc k)) ++ more) rest w') e ∙ s.does;
            like = s.like;
            later = later s;
            earlier = λ m h. s.earlier m (omega (arith, h));
            others = s.others;
          }
        where
          later : (s : Set place present paths (suc k) line more rest flags w w') (n : ℕ) (p : Place) →
              slice_get (path ∷ paths) n ≡ Some p → s.new depth (flag (after k n)) ≡ chosen
              (is_at_or_above place p) present (flags depth (flag (after k n)))
          later s zero p h =
              s.earlier k (omega arith) ∙ sym (ap (λ b. chosen b present (flags depth (flag k))) e)
              ∙ ap (λ p. chosen (is_at_or_above place p) present (flags depth (flag k)))
              (let x : Some path ≡ Some p = h in let y : path ≡ p = cc in y)
          later s (suc n) p h = s.later n p h
      by true e again =
          let a = set-acts items local_ty local_ty' extends number depth run' flags 0 (flag k) present w w' like deep is
          (added k below_k).0 flag_ty (added k below_k).1 flag_is in
          let s = again (with_flag flags depth (flag k) (Truth present)) a.0 (suc line) a.2 in record {
            new = s.new;
            v' = s.v';
            line' = s.line';
            does =
                ap (λ b. stmts_do q node line (((if b then set_flag items body flagged k present ∷ [] else [])
                ++ flags_below items body flagged place present paths (suc k)) ++ more) rest w') e
                ∙ ap (λ o. ◌>>=◌ (renamed unplaced o)
                (stmts_do q node (suc line) (flags_below items body flagged place present paths (suc k) ++ more)
                rest)) a.1 ∙ s.does;
            like = s.like;
            later = later a.0 s;
            earlier = λ m h. s.earlier m (omega (arith, h))
                ∙ other_flag m k (λ x. absurd (let never : ⊥ = omega (arith, h, x) in never)) flags (Truth present);
            others = λ d j h. s.others d j h ∙ other_depth (flag k) d j flags (Truth present) h;
          }
        where
          later : (v1 : State) (s : Set place present paths (suc k) (suc line) more rest
              (with_flag flags depth (flag k) (Truth present)) w v1) (n : ℕ) (p : Place) →
              slice_get (path ∷ paths) n ≡ Some p →
              s.new depth (flag (after k n)) ≡ chosen (is_at_or_above place p) present (flags depth (flag (after k n)))
          later v1 s zero p h =
              s.earlier k (omega arith) ∙ this_flag k flags (Truth present)
              ∙ sym (ap (λ b. chosen b present (flags depth (flag k))) e)
              ∙ ap (λ p. chosen (is_at_or_above place p) present (flags depth (flag k)))
              (let x : Some path ≡ Some p = h in let y : path ≡ p = cc in y)
          later v1 s (suc n) p h = s.later n p h ∙ ap (chosen (is_at_or_above place p) present)
              (other_flag (after (suc k) n) k (past n) flags (Truth present))

  -- ---- before anything is done

  pub record First (paths : List Place) (k line : ℕ) (more : List Stmt) (rest : State → Out State)
      (flags : Flags) (w w' : State) : Type 0 where
    pub new : Flags
    pub v' : State
    pub line' : ℕ
    pub does : stmts_do q node line (first_flags items body flagged paths k ++ more) rest w' ≡ stmts_do
        q node line' more rest v'
    pub like : Like local_ty new w v'
    pub later : (n : ℕ) (path : Place) → slice_get paths n ≡ Some path → new depth (flag (after k n)) ≡ Truth
        (is_param items body path.local)
    pub earlier : (m : ℕ) → m < k → new depth (flag m) ≡ flags depth (flag m)
    pub others : (d k : ℕ) → (d == depth) ≡ false → new d k ≡ flags d k

  pub firsts : (paths : List Place) (k line : ℕ) (more : List Stmt) (rest : State → Out State) (flags : Flags)
      (w w' : State) → k + length paths ≤ length flagged → Like local_ty flags w w' → length w.activations ≡ suc depth →
      body_at depth w ≡ Some number →
      First paths k line more rest flags w w'
  firsts [] k line more rest flags w w' l like deep is = record {
    new = flags;
    v' = w';
    line' =
        line;
    does = refl;
    like = like;
    later = λ n path e. absurd (none-some path e);
    earlier = λ m h. refl;
    others = λ d k h. refl;
  }
  firsts (path ∷ paths) k line more rest flags w w' l like deep is =
      let below_k : k < length flagged = omega (arith, l) in
      let present = is_param items body path.local in
      let a = set-acts items local_ty local_ty' extends number depth run' flags 0 (flag k) present w w' like deep is
      (added k below_k).0 flag_ty (added k below_k).1 flag_is in
      let s = firsts paths (suc k) (suc line) more rest (with_flag flags depth (flag k) (Truth present)) w a.0
      (omega (arith, l)) a.2 deep is in record {
        new = s.new;
        v' = s.v';
        line' = s.line';
        does = ap (λ o. ◌>>=◌ (renamed unplaced o)
            (stmts_do q node (suc line) (first_flags items body flagged paths (suc k) ++ more) rest)) a.1 ∙ s.does;
        like = s.like;
        later = later a.0 s;
        earlier = λ m h. s.earlier m (omega (arith, h))
            ∙ other_flag m k (λ x. absurd (let never : ⊥ = omega (arith, h, x) in never)) flags (Truth present);
        others = λ d j h. s.others d j h ∙ other_depth (flag k) d j flags (Truth present) h;
      }
    where
      later : (v1 : State) (s : First paths (suc k) (suc line) more rest
          (with_flag flags depth (flag k) (Truth (is_param items body path.local))) w v1) (n : ℕ) (p : Place) →
          slice_get (path ∷ paths) n ≡ Some p → s.new depth (flag (after k n)) ≡ Truth (is_param items body p.local)
      later v1 s zero p h = s.earlier k (omega arith) ∙ this_flag k flags (Truth (is_param items body path.local))
          ∙ ap (λ (p : Place). Truth (is_param items body p.local)) (let x : Some path ≡ Some p =
          h in let y : path ≡ p = cc in y)
      later v1 s (suc n) p h = s.later n p h

  -- ---- flags tell what is present

  -- the flags of this body do, and those of older ones hold what they held
  pub record Tell (flags : Flags) (acts : List PathAction) : Type 0 where
    pub own : (n : ℕ) (path : Place) → slice_get flagged n ≡ Some path → flags depth (flag n) ≡ Truth
        (not (is_gone_after items body acts path))
    pub others : (d k : ℕ) → (d == depth) ≡ false → flags d k ≡ outer d k

  -- after the flags of a use, or of some uses, were set
  pub record After (acts : List PathAction) (stmts : List Stmt) (line : ℕ) (more : List Stmt) (rest : State → Out State)
      (w w' : State) : Type 0 where
    pub new : Flags
    pub v' : State
    pub line' : ℕ
    pub does : stmts_do q node line (stmts ++ more) rest w' ≡ stmts_do q node line' more rest v'
    pub like : Like local_ty new w v'
    pub tell : Tell new acts

  here-after : (n : ℕ) → after 0 n ≡ n
  here-after n = after-sum 0 n ∙ (let x : 0 + n ≡ n = omega arith in x)

  use-sets : (acts : List PathAction) (action : PathAction) (line : ℕ) (more : List Stmt) (rest : State → Out State)
      (flags : Flags) (w w' : State) → Like local_ty flags w w' → length w.activations ≡ suc depth →
      body_at depth w ≡ Some number → Tell flags acts →
      (c : Bool) → counts items body action.place ≡ c → (g : Option Bool) → leaves_gone action.how ≡ g →
      After (acts ++ action ∷ []) (if c then flags_if items body flagged g action.place else []) line more rest w w'
  use-sets acts action line more rest flags w w' like deep is tell false ec g eg = record {
    new = flags;
    v' = w';
    line' = line;
    does = refl;
    like = like;
    tell = record {
      own = λ n path e. tell.own n path e ∙ ap (λ b. Truth (not b))
          (sym (gone-kept items body acts action path
          (ap (λ b. if b && is_at_or_above action.place path then leaves_gone action.how else None) ec)));
      others = tell.others;
    };
  }
  use-sets acts action line more rest flags w w' like deep is tell true ec None eg = record {
    new = flags;
    v' = w';
    line' = line;
    does = refl;
    like = like;
    tell = record {
      own = λ n path e. tell.own n path e ∙ ap (λ b. Truth (not b))
          (sym (gone-kept items body acts action path (left-none path)));
      others = tell.others;
    };
  }
    where
      left-none : (path : Place) → left_by items body path action ≡ None
      left-none path = ap (λ g. if counts items body action.place && is_at_or_above action.place path then g else None)
          eg ∙ if-same (counts items body action.place && is_at_or_above action.place path) None
  use-sets acts action line more rest flags w w' like deep is tell true ec (Some g) eg =
      let s = sets action.place (not g) flagged 0 line more rest flags w w' (omega arith) like deep is in record {
        new = s.new;
        v' = s.v';
        line' = s.line';
        does = s.does;
        like = s.like;
        tell = record {
          own = λ n path e. subst (λ m. s.new depth (flag m) ≡ Truth
              (not (is_gone_after items body (acts ++ action ∷ []) path))) (here-after n)
              (s.later n path e ∙ by path (is_at_or_above action.place path) refl
              (ap (λ m. flags depth (flag m)) (here-after n) ∙ tell.own n path e));
          others = λ d k h. s.others d k h ∙ tell.others d k h;
        };
      }
    where
      by : (path : Place) (b : Bool) → is_at_or_above action.place path ≡ b → {old : Datum} →
          old ≡ Truth (not (is_gone_after items body acts path)) → chosen (is_at_or_above action.place path)
          (not g) old ≡ Truth (not (is_gone_after items body (acts ++ action ∷ []) path))
      by path true e {old} h =
          ap (λ b. chosen b (not g) old) e
          ∙ ap (λ b. Truth (not b)) (sym (gone-left items body acts action path g
          (ap (λ b. if b && is_at_or_above action.place path then leaves_gone action.how else None) ec
          ∙ ap (λ b. if b then leaves_gone action.how else None) e ∙ eg)))
      by path false e {old} h =
          ap (λ b. chosen b (not g) old) e ∙ h
          ∙ ap (λ b. Truth (not b)) (sym (gone-kept items body acts action path
          (ap (λ b. if b && is_at_or_above action.place path then leaves_gone action.how else None) ec
          ∙ ap (λ b. if b then leaves_gone action.how else None) e)))

  abbrev action_at : (block line : ℕ) → PlaceUse × graph.Place → PathAction
  action_at block line made = record { how = made.0; place = named made.1; block = block; line = line }

  pub uses-set : (block number' : ℕ) (uses : List (PlaceUse × graph.Place)) (acts : List PathAction)
      (line : ℕ) (more : List Stmt) (rest : State → Out State) (flags : Flags) (w w' : State) →
      Like local_ty flags w w' → length w.activations ≡ suc depth → body_at depth w ≡ Some number →
      Tell flags acts → After (acts ++ at_line block number' uses) (flags_of_uses items body flagged uses)
      line more rest w w'
  uses-set block number' [] acts line more rest flags w w' like deep is tell = record {
    new = flags;
    v' = w';
    line' = line;
    does = refl;
    like = like;
    tell = subst (Tell flags) (sym (nil acts)) tell;
  }
    where
      nil : (xs : List PathAction) → xs ++ [] ≡ xs
      nil [] = refl
      nil (x ∷ xs) = ap (λ r. x ∷ r) (nil xs)
  uses-set block number' (made ∷ uses) acts line more rest flags w w' like deep is tell =
      let one = use-sets acts (action_at block number' made) line (flags_of_uses items body flagged uses ++ more)
      rest flags w w' like deep is tell (counts items body (named made.1)) refl (leaves_gone made.0) refl in
      let others = uses-set block number' uses (acts ++ action_at block number' made ∷ []) one.line'
      more rest one.new w one.v' one.like deep is one.tell in record {
        new = others.new;
        v' = others.v';
        line' = others.line';
        does = ap (λ stmts. stmts_do q node line stmts rest w')
            (append_assoc (flags_of_use items body flagged made) (flags_of_uses items body flagged uses) more)
            ∙ one.does ∙ others.does;
        like = others.like;
        tell = subst (Tell others.new) (append_assoc acts (action_at block number' made ∷ [])
            (at_line block number' uses)) others.tell;
      }

  pub begin-sets : (line : ℕ) (more : List Stmt) (rest : State → Out State) (flags : Flags) (w w' : State) →
      Like local_ty flags w w' → length w.activations ≡ suc depth → body_at depth w ≡ Some number →
      ((d k : ℕ) → (d == depth) ≡ false → flags d k ≡ outer d k) →
      After [] (first_flags items body flagged flagged 0) line more rest w w'
  begin-sets line more rest flags w w' like deep is beyond =
      let f = firsts flagged 0 line more rest flags w w' (omega arith) like deep is in record {
        new = f.new;
        v' = f.v';
        line' = f.line';
        does = f.does;
        like = f.like;
        tell = record {
          own = λ n path e. ap (λ m. f.new depth (flag m)) (sym (here-after n)) ∙ f.later n path e
              ∙ ap Truth (sym (twice (is_param items body path.local)));
          others = λ d k h. f.others d k h ∙ beyond d k h;
        };
      }
    where
      twice : (b : Bool) → not (not b) ≡ b
      twice true = refl
      twice false = refl
      -- ---- statements
