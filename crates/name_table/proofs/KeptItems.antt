-- What adding items keeps: the types that are there; and a trait more where the item is one.
use Rattle.std.proofs.Common.{◌≡◌, ℕ, suc, ◌+◌, Bool, List, [], ◌∷◌, ◌++◌, length, length-append, Option, Some, None, Result, Ok, Err, refl, ap, sym, subst, ◌∙◌}
use Rattle.std.specs.Prelude.{option_and_then, is_some, ◌||◌}
use Rattle.mir_base.specs.declared.place_in_text.Pos.{Pos}
use Rattle.mir_base.specs.declared.rule.Rule.{Rule}
use Rattle.mir_ty.specs.ItemTable.{with_adt, with_body, with_trait}
use Rattle.mir_ty.specs.declared.adt.Adt.{Adt}
use Rattle.mir_ty.specs.declared.def.Sig.{Sig}
use Rattle.mir_ty.specs.declared.ty.Ty.{Ty}
use Rattle.mir_ty.specs.declared.ty.TyId.{TyId}
use Rattle.src_ast.specs.Syntax.{Word, Named, Syn, syn, AnExpression, AnItem, AParam, AVariant, MoveOf, StructItem, EnumItem, TraitItem, ImplItem, FnItem, ParamOf, Syns, list_of, MaybeSyn}
use Rattle.typing_rules.specs.Check.{Check, TypingState, Broken, and_then, pure, interned, known, obeys, each_checked, ◌>>=◌, ◌>>◌}
use Rattle.typing_rules.specs.Collected as walk
use Rattle.typing_rules.specs.Collected.{item_head, derives_known, is_derivable, variant_of, declared_variant, adt_of, added, names_alone, field_type, own_ty, sig_of, body_added, closure_param, closure_params, closure_head, body_sig, body_sigs, answer_ty, impl_head, is_drop, trait_head}
use Rattle.typing_rules.specs.Items.{trait_name, impl_owner, full_name, closure_name, ItemSyn}
use Rattle.typing_rules.specs.Places.{unit}
use Rattle.typing_rules.specs.Written.{WrittenScope, written, or_unit, or_unit_in, number_of}
use Rattle.typeck_heads.proofs.Kept.{Keeps, keeps_self, keeps_on, Kept, kept_bind, kept_pure, kept_breaks, kept_obeys, kept_known, kept_interned, kept_each, kept_written, state_in}
use Rattle.name_table.specs.Forms.{one_more, item_added, trait_by}
use Rattle.name_table.proofs.TraitHeads.{bound, kept_sig, kept_answer, kept_trait_head}

kept_adt : (adt : Adt) → Kept (added (λ items. with_adt items adt))
kept_adt adt = λ s t a h. subst (λ z. Keeps s z) (ap (state_in s) h) (record { types = λ k ty is. is; traits = refl })

kept_body_added : (sig : Sig) → Kept (body_added sig)
kept_body_added sig = λ s t a h. subst (λ z. Keeps s z) (ap (state_in s) h) (record { types = λ k ty is. is; traits = refl })

-- ---- structs, enums and impls

kept_derives : (ds : List Named) → Kept (derives_known ds)
kept_derives [] = kept_pure tt
kept_derives (d ∷ ds) = kept_bind (obeys Rule.T01 d.0 (is_derivable d.1)) _ (kept_obeys Rule.T01 d.0 (is_derivable d.1)) (λ _. kept_derives ds)

kept_variant : (w : WrittenScope) (name : Word) (fields : Syns) → Kept (variant_of w name fields)
kept_variant w name fields =
    kept_bind (each_checked (λ f. written w (field_type f)) (list_of fields)) _ (kept_each (λ f. written w (field_type f)) (λ f. kept_written w (field_type f)) (list_of fields)) (λ tys. kept_pure _)

kept_declared : (w : WrittenScope) (x : Syn) → Kept (declared_variant w x)
kept_declared w (syn at (AVariant name kind fields)) = kept_variant w name fields
kept_declared w (syn at _) = kept_breaks Rule.T20 at

kept_impl_head : (k : walk.Known) (trait_ : Option Named) (name : Named) → Kept (impl_head k trait_ name)
kept_impl_head k None name = kept_obeys Rule.T01 name.0 (is_some (number_of k.adts name.1))
kept_impl_head k (Some trait_) name =
    kept_bind (obeys Rule.T01 trait_.0 (is_drop trait_.1 || is_some (number_of k.traits trait_.1))) _ (kept_obeys Rule.T01 trait_.0 (is_drop trait_.1 || is_some (number_of k.traits trait_.1))) (λ _. kept_obeys Rule.T01 name.0 (is_some (number_of k.adts name.1)))

-- ---- bodies

kept_own_ty : (at : Pos) (adt : Option ℕ) → Kept (own_ty at adt)
kept_own_ty at adt = kept_bind (known Rule.T01 at adt) _ (kept_known Rule.T01 at adt) (λ n. kept_interned (Ty.Adt n))

kept_or_unit : (p : Check TyId) → Kept p → Kept (or_unit p)
kept_or_unit p kept = λ s t a h. by s t a (p s) refl h
  where
    by : (s t : TypingState) (a : TyId) (o : Result (TyId × TypingState) Broken) → p s ≡ o → or_unit_in s o ≡ Ok (a, t) → Keeps s t
    by s t a (Ok b) is h = kept s t a (is ∙ h)
    by s t a (Err e) is h = subst (λ z. Keeps s z) (ap (state_in s) h) (keeps_self s)

kept_closure_param : (w : WrittenScope) (x : Syn) → Kept (closure_param w x)
kept_closure_param w (syn at (AParam (ParamOf p ty))) = kept_or_unit (written w ty) (kept_written w ty)
kept_closure_param w (syn at _) = kept_pure unit

kept_closure_params : (w : WrittenScope) (closures : ℕ) (params : Syns) → Kept (closure_params w closures params)
kept_closure_params w closures params =
    kept_bind (interned (Ty.Closure closures)) _ (kept_interned (Ty.Closure closures)) (λ self. kept_bind (each_checked (closure_param w) (list_of params)) _ (kept_each (closure_param w) (kept_closure_param w) (list_of params)) (λ tys. kept_pure (self ∷ tys)))

kept_closure_head : (w : WrittenScope) (closures : ℕ) (name : Word) (params : Syns) (answer : MaybeSyn) → Kept (closure_head w closures name params answer)
kept_closure_head w closures name params answer =
    kept_bind (closure_params w closures params) _ (kept_closure_params w closures params) (λ tys. kept_bind (or_unit (answer_ty w answer)) _ (kept_or_unit (answer_ty w answer) (kept_answer w answer)) (λ ty. kept_body_added _))

module _ (k : walk.Known) (owner : Option Word) where
  abbrev around_adt : WrittenScope
  around_adt = names_alone k (option_and_then (number_of k.adts) owner)

  kept_body : (c : walk.Count) (x : Syn) → Kept (body_sig k owner c x)
  kept_body c (syn at (AnItem (FnItem name params answer block))) =
      kept_bind (sig_of around_adt (own_ty at (option_and_then (number_of k.adts) owner)) (full_name owner name.1) params answer) _
      (kept_sig around_adt (own_ty at (option_and_then (number_of k.adts) owner)) (kept_own_ty at (option_and_then (number_of k.adts) owner)) (full_name owner name.1) params answer)
      (λ sig. kept_bind (body_added sig) _ (kept_body_added sig) (λ _. kept_pure (record c { outer = full_name owner name.1; in_outer = 0 })))
  kept_body c (syn at (AnExpression (MoveOf captures params answer body))) =
      kept_bind (closure_head around_adt c.closures (closure_name c.outer (c.in_outer + 1)) params answer) _
      (kept_closure_head around_adt c.closures (closure_name c.outer (c.in_outer + 1)) params answer) (λ _. kept_pure (record c { in_outer = c.in_outer + 1; closures = c.closures + 1 }))
  kept_body c (syn at _) = kept_breaks Rule.T20 at

  kept_bodies : (c : walk.Count) (xs : List Syn) → Kept (body_sigs k owner c xs)
  kept_bodies c [] = kept_pure c
  kept_bodies c (x ∷ xs) = kept_bind (body_sig k owner c x) _ (kept_body c x) (λ d. kept_bodies d xs)

-- ---- how many traits

module _ (k : walk.Known) where
  -- behind an item there are as many traits, or one more where it is a trait
  abbrev Counts : Syn → Type 0
  Counts x = (s t : TypingState) (a : Unit {0}) → item_head k x s ≡ Ok (a, t) → length t.items.traits ≡ one_more (trait_name x) (length s.items.traits)

  as_many : (p : Check (Unit {0})) → Kept p → (s t : TypingState) (a : Unit {0}) → p s ≡ Ok (a, t) → length t.items.traits ≡ length s.items.traits
  as_many p kept s t a h = ap length (kept s t a h).traits

  trait_more : (name : Named) (heads : Syns) (s t : TypingState) (a : Unit {0}) → trait_by k name.1 heads s ≡ Ok (a, t) → length t.items.traits ≡ length s.items.traits + 1
  trait_more name heads s t a h =
      let (own, u, one, others) = bound (interned (Ty.Dyn (length s.items.traits)) s) _ a t h in
      let (sigs, v, heads_, made) = bound (each_checked (trait_head (names_alone k None) own) (list_of heads) u) _ a t others in
      let first_ = (kept_interned (Ty.Dyn (length s.items.traits)) s u own one).traits in
      let rest_ = (kept_each (trait_head (names_alone k None) own) (kept_trait_head (names_alone k None) own) (list_of heads) u v sigs heads_).traits in
      let last_ : v.items.traits ++ (record { name = name.1; methods = sigs }) ∷ [] ≡ t.items.traits = ap (λ (r : Result (Unit {0} × TypingState) Broken). (state_in v r).items.traits) made in
      ap length (sym last_) ∙ length-append v.items.traits (record { name = name.1; methods = sigs } ∷ []) ∙ ap (λ z. length z + 1) (rest_ ∙ first_)

  counted : (x : Syn) → Counts x
  counted (syn at (AnItem (StructItem ds name kind fields))) =
      as_many (item_head k (syn at (AnItem (StructItem ds name kind fields))))
      (kept_bind (derives_known ds) _ (kept_derives ds) (λ _. kept_bind (variant_of (names_alone k (number_of k.adts name.1)) name.1 fields) _ (kept_variant (names_alone k (number_of k.adts name.1)) name.1 fields) (λ v. kept_adt _)))
  counted (syn at (AnItem (EnumItem ds name variants))) =
      as_many (item_head k (syn at (AnItem (EnumItem ds name variants))))
      (kept_bind (derives_known ds) _ (kept_derives ds) (λ _. kept_bind (each_checked (declared_variant (names_alone k (number_of k.adts name.1))) (list_of variants)) _ (kept_each (declared_variant (names_alone k (number_of k.adts name.1))) (kept_declared (names_alone k (number_of k.adts name.1))) (list_of variants)) (λ vs. kept_adt _)))
  counted (syn at (AnItem (TraitItem name heads))) = trait_more name heads
  counted (syn at (AnItem (ImplItem trait_ name methods))) = as_many (impl_head k trait_ name) (kept_impl_head k trait_ name)
  counted (syn at _) = as_many (pure tt) (kept_pure tt)

  pub traits_after : (c d : walk.Count) (i : ItemSyn) (s t : TypingState) → item_added k c i s ≡ Ok (d, t) →
      length t.items.traits ≡ one_more (trait_name i.item) (length s.items.traits)
  traits_after c d i s t h =
      let (a, u, head, bodies) = bound (item_head k i.item s) _ d t h in
      ap length (kept_bodies k (impl_owner i.item) c i.bodies u t d bodies).traits ∙ counted i.item s u a head
