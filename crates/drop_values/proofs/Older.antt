-- What is older than the body that runs: changes of the body's own locals leave it as it was, and what comes to older
-- places does so whether the body still runs or has ended.
use Rattle.std.proofs.Common.{◌≡◌, ℕ, suc, ◌≤◌, ◌==◌, ◌&&◌, Bool, true, false, List, [], ◌∷◌, length, Option, Some, None, if◌then◌else◌, Contains, refl, ap, sym, ◌∙◌, subst, arith}
use Rattle.std.proofs.lemmas.Bool.Decides.{Decides-eqb}
use Rattle.mir_ty.specs.declared.ty.TyId.{TyId}
use Rattle.mir_ty.specs.ItemTable.{ItemTable}
use Rattle.store_model.specs.declared.address.Addr.{Addr}
use Rattle.store_model.specs.Values.Access.{replaced}
use Rattle.store_model.specs.Values.Datum.{Datum, Gone}
use Rattle.store_model.specs.Concrete.Location.{Setting, Located, located_at}
use Rattle.store_model.specs.Concrete.State.{State, Activation, at_depth, older_of, without_activation}
use Rattle.drop_values.specs.Like.{held, held_by, body_at, body_of, raw_setting}
use Rattle.drop_values.specs.Typed.{IsFull}
use Rattle.drop_values.proofs.Bodies.{too_deep}
use Rattle.drop_values.proofs.Named.{located-by}
use Rattle.drop_values.proofs.Stand.{Changed}
use Rattle.drop_values.proofs.Touched.{SameCells, NoAddress, Touched, stored}

older-at : (depth d : ℕ) (acts : List Activation) → length acts ≡ suc depth → (d == depth) ≡ false →
    at_depth d (older_of acts) ≡ at_depth d acts
older-at depth d [] e n = refl
older-at depth d (a ∷ older) e n =
    let count : length older ≡ depth = omega (arith, e) in
    sym (ap (λ b. if b then Some a else at_depth d older) (ap (λ m. d == m) count ∙ n))

none-own : (depth : ℕ) (acts : List Activation) → length acts ≡ suc depth → at_depth depth (older_of acts) ≡ None
none-own depth [] e = absurd (let never : ⊥ = omega (arith, e) in never)
none-own depth (a ∷ older) e = too_deep depth older (omega (arith, e))

pub older-length : (depth : ℕ) (acts : List Activation) → length acts ≡ suc depth → length (older_of acts) ≡ depth
older-length depth [] e = absurd (let never : ⊥ = omega (arith, e) in never)
older-length depth (a ∷ older) e = omega (arith, e)

module _ (depth : ℕ) where
  pub held-older : (w : State) (d k : ℕ) → length w.activations ≡ suc depth → (d == depth) ≡ false →
      held d k (without_activation w) ≡ held d k w
  held-older w d k e n = ap (held_by k) (older-at depth d w.activations e n)

  pub body-older : (w : State) (d : ℕ) → length w.activations ≡ suc depth → (d == depth) ≡ false →
      body_at d (without_activation w) ≡ body_at d w
  body-older w d e n = ap body_of (older-at depth d w.activations e n)

  held-own : (w : State) (k : ℕ) → length w.activations ≡ suc depth → held depth k (without_activation w) ≡ Gone
  held-own w k e = ap (held_by k) (none-own depth w.activations e)

  body-own : (w : State) → length w.activations ≡ suc depth → body_at depth (without_activation w) ≡ None
  body-own w e = ap body_of (none-own depth w.activations e)

  apart-so : (d k : ℕ) (a : Addr) → a.depth ≡ depth → (d == depth) ≡ false → ((d == a.depth) && (k == a.key.0)) ≡ false
  apart-so d k a e n = ap (λ m. (d == m) && (k == a.key.0)) e ∙ ap (λ b. b && (k == a.key.0)) n

  -- what is older is as it was, where it is at all other depths
  pub older-same : (w v : State) → length w.activations ≡ suc depth → length v.activations ≡ suc depth →
      v.ticks ≤ w.ticks → ((d : ℕ) → (d == depth) ≡ false → body_at d v ≡ body_at d w) →
      ((d k : ℕ) → (d == depth) ≡ false → held d k v ≡ held d k w) →
      SameCells (without_activation w) (without_activation v)
  older-same w v deep deep' less bodies cells = record {
    less = less;
    count = older-length depth v.activations deep' ∙ sym (older-length depth w.activations deep);
    bodies = λ d. body d (d == depth) refl;
    cells = λ d k. one d k (d == depth) refl;
  }
    where
      body : (d : ℕ) (b : Bool) → (d == depth) ≡ b → body_at d (without_activation v) ≡ body_at d (without_activation w)
      body d false n = body-older v d deep' n ∙ bodies d n ∙ sym (body-older w d deep n)
      body d true n =
          subst (λ x. body_at x (without_activation v) ≡ body_at x (without_activation w))
          (sym ((Decides-eqb d depth).0 n)) (body-own v deep' ∙ sym (body-own w deep))

      one : (d k : ℕ) (b : Bool) → (d == depth) ≡ b →
          held d k (without_activation v) ≡ held d k (without_activation w)
      one d k false n = held-older v d k deep' n ∙ cells d k n ∙ sym (held-older w d k deep n)
      one d k true n =
          subst (λ x. held x k (without_activation v) ≡ held x k (without_activation w))
          (sym ((Decides-eqb d depth).0 n)) (held-own v k deep' ∙ sym (held-own w k deep))

  -- one of its own locals changes
  pub own-older : (w v : State) (a : Addr) (new : Datum) → Changed a new w v → a.depth ≡ depth →
      length w.activations ≡ suc depth → SameCells (without_activation w) (without_activation v)
  own-older w v a new c e deep = older-same w v deep (c.count ∙ deep) c.less (λ d n. c.bodies d)
      (λ d k n. c.apart d k (apart-so d k a e n))

  pub same-older : (w v : State) → SameCells w v → length w.activations ≡ suc depth →
      SameCells (without_activation w) (without_activation v)
  same-older w v s deep = older-same w v deep (s.count ∙ deep) s.less (λ d n. s.bodies d) (λ d k n. s.cells d k)

  -- an older place changes
  pub older-Changed : (w v : State) (a : Addr) (new : Datum) → Changed a new w v → (a.depth == depth) ≡ false →
      length w.activations ≡ suc depth → Changed a new (without_activation w) (without_activation v)
  older-Changed w v a new c far deep =
      let deep' : length v.activations ≡ suc depth = c.count ∙ deep in record {
        less = c.less;
        count = older-length depth v.activations deep' ∙ sym (older-length depth w.activations deep);
        bodies = λ d. body deep' d (d == depth) refl;
        here = held-older v a.depth a.key.0 deep' far ∙ c.here
            ∙ ap (replaced a.path new) (sym (held-older w a.depth a.key.0 deep far));
        apart = λ d k n. one deep' d k n (d == depth) refl;
      }
    where
      body : length v.activations ≡ suc depth → (d : ℕ) (b : Bool) → (d == depth) ≡ b →
          body_at d (without_activation v) ≡ body_at d (without_activation w)
      body deep' d false n = body-older v d deep' n ∙ c.bodies d ∙ sym (body-older w d deep n)
      body deep' d true n =
          subst (λ x. body_at x (without_activation v) ≡ body_at x (without_activation w))
          (sym ((Decides-eqb d depth).0 n)) (body-own v deep' ∙ sym (body-own w deep))

      one : length v.activations ≡ suc depth → (d k : ℕ) → ((d == a.depth) && (k == a.key.0)) ≡ false → (b : Bool) →
          (d == depth) ≡ b → held d k (without_activation v) ≡ held d k (without_activation w)
      one deep' d k m false n = held-older v d k deep' n ∙ c.apart d k m ∙ sym (held-older w d k deep n)
      one deep' d k m true n =
          subst (λ x. held x k (without_activation v) ≡ held x k (without_activation w))
          (sym ((Decides-eqb d depth).0 n)) (held-own v k deep' ∙ sym (held-own w k deep))

  module _ (items : ItemTable) (local_ty : (body local : ℕ) → Option TyId) where
    abbrev raw : Setting
    raw = raw_setting items local_ty

    pub older-located : (w : State) (c : Addr) → (c.depth == depth) ≡ false → length w.activations ≡ suc depth →
        located_at raw (without_activation w) c ≡ located_at raw w c
    older-located w c far deep =
        located-by items local_ty (without_activation w) w c (sym (body-older w c.depth deep far))
        (sym (held-older w c.depth c.key.0 deep far))

    -- a full value comes to an older place
    pub older-stored : (addresses : List Addr) (u w v : State) (a : Addr) (s : Located) (new : Datum) →
        Touched items local_ty addresses u (without_activation w) → Contains addresses a → (a.depth == depth) ≡ false →
        length w.activations ≡ suc depth → located_at raw w a ≡ Some s → IsFull items s.dynamic new → NoAddress new →
        Changed a new w v → Touched items local_ty addresses u (without_activation v)
    older-stored addresses u w v a s new before among far deep e full plain change =
        stored a s new before among (older-located w a far deep ∙ e) full plain
        (older-Changed w v a new change far deep)
