-- The methods of a trait begin with a reference to the trait's own type.
use Rattle.std.proofs.Common.{◌≡◌, ℕ, Bool, true, false, if◌then◌else◌, List, [], ◌∷◌, length, slice_get, All, Option, Some, None, Result, Ok, Err, refl, ap, sym, subst, ◌∙◌}
use Rattle.std.specs.Prelude.{option_and_then}
use Rattle.std.specs.List.{position as position_of}
use Rattle.std.proofs.lemmas.List.Elements.{All-cons, All-nil}
use Rattle.mir_base.specs.declared.rule.Rule.{Rule}
use Rattle.mir_ty.specs.AreItems.{IsSig, IsMethod, IsSelfTy, BeginsWithSelf}
use Rattle.mir_ty.specs.ItemTable.{ItemTable}
use Rattle.mir_ty.specs.declared.def.Sig.{Sig}
use Rattle.mir_ty.specs.declared.ty.Ty.{Ty}
use Rattle.mir_ty.specs.declared.ty.TyId.{TyId}
use Rattle.mir_ty.proofs.ListLemmas.{slice_get-last}
use Rattle.well_typed.specs.Items.{is_equal}
use Rattle.src_ast.specs.Syntax.{Word, ByShared, ByUnique, Syn, syn, AnItem, AParam, FnItem, SelfParam, Syns, no_syn, a_syn, list_of, MaybeSyn, nothing, just}
use Rattle.typing_rules.specs.Check.{Check, TypingState, Broken, and_then, pure, interned, interned_at, each_checked, ◌>>=◌}
use Rattle.typing_rules.specs.Collected.{param_ty, answer_ty, sig_of, trait_head, has_receiver, is_by_reference, behind_self, with_receiver, starting_with}
use Rattle.typing_rules.specs.Places.{unit}
use Rattle.typing_rules.specs.Written.{WrittenScope}
use Rattle.typing_rules.proofs.Sound.Interned.{found_at}
use Rattle.typeck_heads.proofs.Kept.{Keeps, keeps_on, Kept, kept_bind, kept_pure, kept_breaks, kept_interned, kept_each, kept_written, kept_head_param, state_in}

abbrev value_in : {A : Type 0} → A → Result (A × TypingState) Broken → A
value_in a (Ok b) = b.0
value_in a (Err e) = a

-- what comes first, where both come
pub bound : {A B : Type 0} (o : Result (A × TypingState) Broken) (f : A → Check B) (b : B) (t : TypingState) → and_then o f ≡ Ok (b, t) →
    (a : A) × (u : TypingState) × (o ≡ Ok (a, u)) × (f a u ≡ Ok (b, t))
bound (Ok p) f b t h = (p.0, p.1, refl, h)
bound (Err e) f b t h = absurd (cc)

-- a type that gets a number has it
pub interned_there : (ty : Ty) (s t : TypingState) (id : TyId) → interned ty s ≡ Ok (id, t) → slice_get t.items.types id.0 ≡ Some ty
interned_there ty s t id h = by (position_of (is_equal ty) s.items.types) refl h
  where
    by : (o : Option ℕ) → position_of (is_equal ty) s.items.types ≡ o → interned_at ty o s ≡ Ok (id, t) →
        slice_get t.items.types id.0 ≡ Some ty
    by (Some n) at h =
        ap (λ (r : Result (TyId × TypingState) Broken). slice_get (state_in s r).items.types (value_in id r).0) (sym h)
        ∙ found_at ty s.items.types n at
    by None at h =
        ap (λ (r : Result (TyId × TypingState) Broken). slice_get (state_in s r).items.types (value_in id r).0) (sym h)
        ∙ slice_get-last s.items.types ty

-- ---- what a head keeps

pub kept_answer : (w : WrittenScope) (answer : MaybeSyn) → Kept (answer_ty w answer)
kept_answer w nothing = kept_pure unit
kept_answer w (just ty) = kept_written w ty

pub kept_sig : (w : WrittenScope) (self : Check TyId) → Kept self → (name : Word) (params : Syns) (answer : MaybeSyn) →
    Kept (sig_of w self name params answer)
kept_sig w self kept_self name params answer =
    kept_bind (each_checked (param_ty w self) (list_of params)) _ (kept_each (param_ty w self) (kept_head_param w self kept_self) (list_of params))
    (λ tys. kept_bind (answer_ty w answer) _ (kept_answer w answer) (λ ty. kept_pure _))

module _ (w : WrittenScope) (own : TyId) where
  kept_own : (name : Word) (params : Syns) (answer : MaybeSyn) → Kept (sig_of w (pure own) name params answer)
  kept_own name params answer = kept_sig w (pure own) (kept_pure own) name params answer

  kept_other : (name : Word) (params : Syns) (answer : MaybeSyn) →
      Kept (interned (Ty.Shared own) >>= (λ self. sig_of w (pure own) name (behind_self params) answer >>= (λ sig. pure (with_receiver self sig))))
  kept_other name params answer =
      kept_bind (interned (Ty.Shared own)) _ (kept_interned (Ty.Shared own)) (λ self. kept_bind (sig_of w (pure own) name (behind_self params) answer) _ (kept_own name (behind_self params) answer) (λ sig. kept_pure (with_receiver self sig)))

  pub kept_trait_head : (x : Syn) → Kept (trait_head w own x)
  kept_trait_head (syn at (AnItem (FnItem name params answer block))) = by (has_receiver params)
    where
      by : (b : Bool) → Kept (if b then sig_of w (pure own) name.1 params answer else (interned (Ty.Shared own) >>= (λ self. sig_of w (pure own) name.1 (behind_self params) answer >>= (λ sig. pure (with_receiver self sig)))))
      by true = kept_own name.1 params answer
      by false = kept_other name.1 params answer
  kept_trait_head (syn at _) = kept_breaks Rule.T20 at

-- ---- the first parameter

still_self : (s t : TypingState) (n : ℕ) (id : TyId) → Keeps s t → IsSelfTy s.items.types n (slice_get s.items.types id.0) →
    IsSelfTy t.items.types n (slice_get t.items.types id.0)
still_self s t n id k h = by (slice_get s.items.types id.0) refl h
  where
    by : (o : Option Ty) → slice_get s.items.types id.0 ≡ o → IsSelfTy s.items.types n o → IsSelfTy t.items.types n (slice_get t.items.types id.0)
    by (Some (Ty.Shared to)) is h = subst (IsSelfTy t.items.types n) (sym (k.types id.0 (Ty.Shared to) is)) (k.types to.0 (Ty.Dyn n) h)
    by (Some (Ty.Unique to)) is h = subst (IsSelfTy t.items.types n) (sym (k.types id.0 (Ty.Unique to) is)) (k.types to.0 (Ty.Dyn n) h)
    by _ is h = absurd h

still_begins : (s t : TypingState) (n : ℕ) (sig : Sig) → Keeps s t → BeginsWithSelf s.items.types n sig → BeginsWithSelf t.items.types n sig
still_begins s t n sig k h = by (slice_get sig.params 0) h
  where
    by : (o : Option TyId) → IsSelfTy s.items.types n (option_and_then (λ id. slice_get s.items.types id.0) o) →
        IsSelfTy t.items.types n (option_and_then (λ id. slice_get t.items.types id.0) o)
    by (Some id) h = still_self s t n id k h
    by None h = absurd h

module _ (w : WrittenScope) (own : TyId) (n : ℕ) where
  -- the type of the trait itself is there
  abbrev HasOwn : TypingState → Type 0
  HasOwn s = slice_get s.items.types own.0 ≡ Some (Ty.Dyn n)

  shared_there : (s t : TypingState) (id : TyId) → HasOwn s → interned (Ty.Shared own) s ≡ Ok (id, t) → IsSelfTy t.items.types n (slice_get t.items.types id.0)
  shared_there s t id has h =
      subst (IsSelfTy t.items.types n) (sym (interned_there (Ty.Shared own) s t id h)) ((kept_interned (Ty.Shared own) s t id h).types own.0 (Ty.Dyn n) has)

  unique_there : (s t : TypingState) (id : TyId) → HasOwn s → interned (Ty.Unique own) s ≡ Ok (id, t) → IsSelfTy t.items.types n (slice_get t.items.types id.0)
  unique_there s t id has h =
      subst (IsSelfTy t.items.types n) (sym (interned_there (Ty.Unique own) s t id h)) ((kept_interned (Ty.Unique own) s t id h).types own.0 (Ty.Dyn n) has)

  first_self : (first : Syn) (s t : TypingState) (id : TyId) → HasOwn s → is_by_reference first ≡ true →
      param_ty w (pure own) first s ≡ Ok (id, t) → IsSelfTy t.items.types n (slice_get t.items.types id.0)
  first_self (syn at (AParam (SelfParam ByShared))) s t id has is h = shared_there s t id has h
  first_self (syn at (AParam (SelfParam ByUnique))) s t id has is h = unique_there s t id has h
  first_self (syn at _) s t id has is h = absurd (cc)

  own_begins : (name : Word) (params : Syns) (answer : MaybeSyn) (s t : TypingState) (sig : Sig) → HasOwn s → has_receiver params ≡ true →
      sig_of w (pure own) name params answer s ≡ Ok (sig, t) → BeginsWithSelf t.items.types n sig
  own_begins name no_syn answer s t sig has is h = absurd (cc)
  own_begins name (a_syn first rest) answer s t sig has is h =
      let (tys, u, all_, answered_) = bound (each_checked (param_ty w (pure own)) (list_of (a_syn first rest)) s) _ sig t h in
      let (id, v, one, others) = bound (param_ty w (pure own) first s) _ tys u all_ in
      let (ids, x, more, made) = bound (each_checked (param_ty w (pure own)) (list_of rest) v) _ tys u others in
      let first_ : IsSelfTy v.items.types n (slice_get v.items.types id.0) = first_self first s v id has is one in
      let kept_rest : Keeps v x = kept_each (param_ty w (pure own)) (kept_head_param w (pure own) (kept_pure own)) (list_of rest) v x ids more in
      let (ty, y, answer_, whole) = bound (answer_ty w answer u) _ sig t answered_ in
      let kept_result : Keeps u y = kept_answer w answer u y ty answer_ in
      let same_u : x ≡ u = ap (state_in x) made in
      let same_t : y ≡ t = ap (state_in y) whole in
      let kept_all : Keeps v t = keeps_on v u t (subst (λ z. Keeps v z) same_u kept_rest) (subst (λ z. Keeps u z) same_t kept_result) in
      let params_are : id ∷ ids ≡ tys = ap (value_in (id ∷ ids)) made in
      let sig_is : id ∷ ids ≡ sig.params = params_are ∙ ap (λ (r : Result (Sig × TypingState) Broken). (value_in sig r).params) whole in
      subst (λ (ps : List TyId). IsSelfTy t.items.types n (option_and_then (λ id. slice_get t.items.types id.0) (slice_get ps 0))) sig_is
      (still_self v t n id kept_all first_)

  other_begins : (name : Word) (params : Syns) (answer : MaybeSyn) (s t : TypingState) (sig : Sig) → HasOwn s →
      (interned (Ty.Shared own) >>= (λ self. sig_of w (pure own) name (behind_self params) answer >>= (λ sig. pure (with_receiver self sig)))) s ≡ Ok (sig, t) →
      BeginsWithSelf t.items.types n sig
  other_begins name params answer s t sig has h =
      let (id, u, one, others) = bound (interned (Ty.Shared own) s) _ sig t h in
      let (inner, v, head, made) = bound (sig_of w (pure own) name (behind_self params) answer u) _ sig t others in
      let same_t : v ≡ t = ap (state_in v) made in
      let kept_all : Keeps u t = subst (λ z. Keeps u z) same_t (kept_own w own name (behind_self params) answer u v inner head) in
      let sig_is : id ∷ inner.params ≡ sig.params = ap (λ (r : Result (Sig × TypingState) Broken). (value_in sig r).params) made in
      subst (λ (ps : List TyId). IsSelfTy t.items.types n (option_and_then (λ id. slice_get t.items.types id.0) (slice_get ps 0))) sig_is
      (still_self u t n id kept_all (shared_there s u id has one))

  head_begins : (x : Syn) (s t : TypingState) (sig : Sig) → HasOwn s → trait_head w own x s ≡ Ok (sig, t) → BeginsWithSelf t.items.types n sig
  head_begins (syn at (AnItem (FnItem name params answer block))) s t sig has h = by (has_receiver params) refl h
    where
      by : (b : Bool) → has_receiver params ≡ b →
          (if b then sig_of w (pure own) name.1 params answer else (interned (Ty.Shared own) >>= (λ self. sig_of w (pure own) name.1 (behind_self params) answer >>= (λ sig. pure (with_receiver self sig))))) s ≡ Ok (sig, t) →
          BeginsWithSelf t.items.types n sig
      by true is h = own_begins name.1 params answer s t sig has is h
      by false is h = other_begins name.1 params answer s t sig has h
  head_begins (syn at _) s t sig has h = absurd (cc)

  heads_begin : (xs : List Syn) (s t : TypingState) (sigs : List Sig) → HasOwn s → each_checked (trait_head w own) xs s ≡ Ok (sigs, t) →
      All (BeginsWithSelf t.items.types n) sigs
  heads_begin [] s t sigs has h = subst (λ z. All (BeginsWithSelf t.items.types n) z) (ap (value_in []) h) (All-nil (BeginsWithSelf t.items.types n))
  heads_begin (x ∷ xs) s t sigs has h =
      let (sig, u, one, others) = bound (trait_head w own x s) _ sigs t h in
      let (more, v, rest, made) = bound (each_checked (trait_head w own) xs u) _ sigs t others in
      let same_t : v ≡ t = ap (state_in v) made in
      let kept_all : Keeps u t = subst (λ z. Keeps u z) same_t (kept_each (trait_head w own) (kept_trait_head w own) xs u v more rest) in
      let has_u : HasOwn u = (kept_trait_head w own x s u sig one).types own.0 (Ty.Dyn n) has in
      let rest_t : each_checked (trait_head w own) xs u ≡ Ok (more, t) = subst (λ z. each_checked (trait_head w own) xs u ≡ Ok (more, z)) same_t rest in
      subst (λ z. All (BeginsWithSelf t.items.types n) z) (ap (value_in (sig ∷ more)) made)
      (All-cons (BeginsWithSelf t.items.types n) sig more (still_begins u t n sig kept_all (head_begins x s u sig has one)) (heads_begin xs u t more has_u rest_t))

-- the heads of a trait that is the next one are those of methods
pub are_methods : (w : WrittenScope) (own : TyId) (old mid new : ItemTable) (number : ℕ) (xs : List Syn) (sigs : List Sig) →
    number ≡ length old.traits → interned (Ty.Dyn number) (starting_with old) ≡ Ok (own, starting_with mid) →
    each_checked (trait_head w own) xs (starting_with mid) ≡ Ok (sigs, starting_with new) → All (IsSig new.types) sigs →
    All (IsMethod new.types (length new.traits)) sigs
are_methods w own old mid new number xs sigs is first rest known =
    let there : slice_get mid.types own.0 ≡ Some (Ty.Dyn number) = interned_there (Ty.Dyn number) (starting_with old) (starting_with mid) own first in
    let begins = heads_begin w own number xs (starting_with mid) (starting_with new) sigs there rest in
    let kept_first = (kept_interned (Ty.Dyn number) (starting_with old) (starting_with mid) own first).traits in
    let kept_rest = (kept_each (trait_head w own) (kept_trait_head w own) xs (starting_with mid) (starting_with new) sigs rest).traits in
    let same : number ≡ length new.traits = is ∙ ap length (sym (kept_rest ∙ kept_first)) in
    subst (λ m. All (IsMethod new.types m) sigs) same (λ k d below. record { head = known k d below; receiver = begins k d below })
