-- What was read of a text are the first lines of the graph that it tells, and each of its lines stands.
use Rattle.std.proofs.Common.{◌≡◌, ℕ, zero, suc, ◌<◌, Bool, true, false, List, [], ◌∷◌, ◌++◌, map, length, codes, Option, Some, None, All, IfSome, decimal, slice_get, refl, ap, sym, subst, ◌∙◌, arith, append_assoc, append-nil}
use Rattle.std.specs.Str.{is_utf8}
use Rattle.std.proofs.lemmas.Bool.{false≢true}
use Rattle.std.proofs.lemmas.Option.{slice_get_within, get_or_from_slice_get}
use Rattle.cfg_graph.specs.WellFormed.NameFaults.{is_name, is_adt_name}
use Rattle.cfg_graph.specs.declared.graph.Block.{Block}
use Rattle.cfg_graph.specs.declared.graph.Body.{Body}
use Rattle.cfg_graph.specs.declared.graph.Kind.{Kind}
use Rattle.cfg_graph.specs.declared.statement.Stmt.{Stmt}
use Rattle.cfg_graph.specs.declared.terminator.Term.{Term}
use Rattle.mir_ty.specs.declared.adt.Adt.{Adt}
use Rattle.mir_ty.specs.declared.adt.Variant.{Variant}
use Rattle.mir_ty.specs.declared.def.ClosureDef.{ClosureDef}
use Rattle.mir_ty.specs.declared.def.ImplDef.{ImplDef}
use Rattle.mir_ty.specs.declared.def.Sig.{Sig}
use Rattle.mir_ty.specs.declared.def.TraitDef.{TraitDef}
use Rattle.mir_ty.specs.declared.ty.TyId.{TyId}
use Rattle.mir_ty.specs.AreItems.{AreItems, AreTypes, IsAdt, IsVariant, IsSig}
use Rattle.mir_ty.specs.ItemTable.{ItemTable}
use Rattle.mir_ty.specs.Named.{adt_name, name_of_adt, body_name}
use Rattle.mir_ty.specs.Parts.{fields_of}
use Rattle.listing_write.specs.Compared.{VariantSeen, Written, adt_seen, variant_seen, trait_seen, sig_seen, closure_seen, numbered}
use Rattle.listing_write.specs.Fields.{Fits}
use Rattle.listing_write.specs.Items.{counted, copy_text, drop_text}
use Rattle.listing_write.specs.Lines.{Line, ImplLine, BodyLine, BlockLine, MakeLine, UnsizeLine, VirtualLine, TermLine, line_text, tree_text, trees, variant_of, variant_words, method_of, method_words, adt_in_line, line_of_adt, line_of_trait, line_of_impl, line_of_closure, line_of_stmt, line_of_term, line_of_local, lines_of_block, lines_of_body, lines_each}
use Rattle.listing_write.specs.Lists.{line, in_braces, in_parentheses}
use Rattle.listing_write.specs.Reading.Rows.{after, many, many_within}
use Rattle.listing_write.specs.Reading.Words.{FoundInText}
use Rattle.listing_write.specs.Types.{trait_name, name_of_trait}
use Rattle.listing_write.proofs.Reading.Basics.{Every}
use Rattle.mir_text.specs.Beginning.{LineStands}
use Rattle.mir_text.proofs.Fronts.{Fronts, none_in_front, then_front, one_in_front, same_front, broken_off}
use Rattle.mir_text.proofs.InFront.{EachFrom, IsOne, in_front}
use Rattle.mir_text.proofs.Named.{Extends, no_fewer_adts, no_fewer_traits, adt_same, trait_same, adt_name_up, trait_name_up}
use Rattle.mir_text.proofs.Standing.{adt_stands, trait_stands, adt_named, word_is, words_are, type_stands, types_stand}
use Rattle.mir_text.proofs.Told.{AdtValid, TraitValid, ClosureValid, trait_text, impl_text, closure_text}
use Rattle.mir_text.proofs.Valid.{IsNamed, BeginsWithSelf, MethodNamed, body_fits, local_fits, block_fits, ImplValid}
use Rattle.listing_lines.specs.CodeReading.{statement_read, terminator_read, closed, code_behind, code_read, blocks_read, goes_on, until_within}
use Rattle.listing_lines.specs.CodeStands.{IsAdtName, IsTraitName, StmtLineStands, TermLineStands, AreNames}
use Rattle.listing_lines.proofs.CodeSound.{statements_sound, terminators_sound}
use Rattle.listing_lines.specs.ItemsFound.{VariantsStand, written_variant, own_fields, written_shape, written_adt}
use Rattle.listing_lines.specs.LineReading as lines
use Rattle.listing_lines.proofs.Sound.{bodies_sound, locals_sound, blocks_sound}
use Rattle.mir_text.specs.BodiesRead.{body_told, bodies_told, AreSigned}
use Rattle.mir_text.specs.BodyReading.{BodyTold, one_local, locals_read, told, with_locals, body_read}
use Rattle.listing_lines.specs.TraitReading.{self_text}
use Rattle.listing_lines.specs.TraitsFound.{ParamsStand, MethodsStand, written_method}
use Rattle.listing_parts.specs.Table.{AreRead, under, text_under}
use Rattle.listing_parts.specs.TypesFound.{EachStands}
use Rattle.listing_parts.proofs.Complete.{found_at}
use Rattle.listing_parts.proofs.Splits.{split, same_found}
use Rattle.listing_parts.proofs.Texts.{every_from_all}

pub named_within : {X : Type 0} (xs : List X) (n : ℕ) (name : Option X → List ℕ) → name None ≡ [] → is_name (name (slice_get xs n)) ≡ true → n < length xs
named_within xs n name none is = by (slice_get xs n) refl is
  where
    by : (o : Option _) → slice_get xs n ≡ o → is_name (name o) ≡ true → n < length xs
    by None e is = absurd (false≢true (sym (ap is_name none) ∙ is))
    by (Some x) e is = slice_get_within xs n x e

module _ (heads items : ItemTable) (read : AreRead heads items.types) (x : Extends heads items) (names : AreNames items) (are : AreItems items) where
  abbrev U : ItemTable
  U = under heads items

  within : (ids : List TyId) → AreTypes items.types ids → Every (λ id. id.0 < length items.types) ids
  within ids all = every_from_all (λ (id : TyId). id.0 < length items.types) ids all

  ids_stand : (ids : List TyId) → AreTypes items.types ids → EachStands items (trees items ids)
  ids_stand ids all = types_stand heads items read x names are ids (within ids all)

  words : (ids : List TyId) → map (text_under heads items) ids ≡ map tree_text (trees items ids)
  words ids = sym (words_are heads items read x ids)

  -- structs and enums
  variant_words_are : (vs : List Variant) → map written_variant (map (variant_seen U) vs) ≡ map variant_words (map (variant_of items) vs)
  variant_words_are [] = refl
  variant_words_are (v ∷ vs) = λ i. (v.name ++ codes " " ++ in_parentheses (words v.fields i)) ∷ variant_words_are vs i

  own_words : (vs : List Variant) → own_fields (map (variant_seen U) vs) ≡ map tree_text (trees items (fields_of (slice_get vs 0)))
  own_words [] = refl
  own_words (v ∷ vs) = words v.fields

  adt_line_is : (is_enum : Bool) (adt : Adt) → written_shape is_enum adt.name (map (variant_seen U) adt.variants) ++ copy_text adt.copy ++ drop_text adt.drop_body ≡ line_text (adt_in_line items is_enum adt)
  adt_line_is true adt = λ i. codes "enum " ++ adt.name ++ codes " " ++ in_braces (variant_words_are adt.variants i) ++ copy_text adt.copy ++ drop_text adt.drop_body
  adt_line_is false adt = λ i. codes "struct " ++ adt.name ++ codes " " ++ in_parentheses (own_words adt.variants i) ++ copy_text adt.copy ++ drop_text adt.drop_body

  variants_stand : (vs : List Variant) → Every (IsVariant items.types) vs → Every (λ (v : VariantSeen). IsNamed v.0) (map (variant_seen U) vs) → VariantsStand items (map (variant_of items) vs)
  variants_stand [] is named = tt
  variants_stand (v ∷ vs) is named = ((named.0.0, named.0.1, ids_stand v.fields is.0.fields), variants_stand vs is.1 named.1)

  own_stand : (vs : List Variant) → Every (IsVariant items.types) vs → EachStands items (trees items (fields_of (slice_get vs 0)))
  own_stand [] is = tt
  own_stand (v ∷ vs) is = ids_stand v.fields is.0.fields

  adt_line_stands : (is_enum : Bool) (adt : Adt) → IsAdt items.types adt → is_adt_name adt.name ≡ true → is_utf8 adt.name ≡ true → IfSome adt.drop_body Fits
      → (is_enum ≡ true → All (λ (v : VariantSeen). IsNamed v.0) (map (variant_seen U) adt.variants)) → LineStands items (adt_in_line items is_enum adt)
  adt_line_stands true adt is name utf fits named = (
    name,
    utf,
    variants_stand adt.variants (every_from_all (IsVariant items.types) adt.variants is.variants) (every_from_all (λ (v : VariantSeen). IsNamed v.0) (map (variant_seen U) adt.variants) (named refl)),
    fits,
  )
  adt_line_stands false adt is name utf fits named = (name, utf, own_stand adt.variants (every_from_all (IsVariant items.types) adt.variants is.variants), fits)

  pub adts_front : (n : ℕ) (adts : List Adt) (t r : List ℕ) → t ≡ counted (λ n. written_adt) n (map (adt_seen U) adts) ++ r → EachFrom (λ n. AdtValid heads) n (map (adt_seen U) adts) → Every (IsAdt items.types) adts
      → Fronts items (map (line_of_adt items) adts) true t r
  adts_front n [] t r is valid all = record { front = []; is = is; whole_is = refl; stand = tt }
  adts_front n (adt ∷ adts) t r is valid all =
      let s : List ℕ = counted (λ (n : ℕ). written_adt) (suc n) (map (adt_seen U) adts) ++ r in
      let own : Line = line_of_adt items adt in
      let at : t ≡ line (line_text own) ++ s =
      is ∙ append_assoc (written_adt (adt_seen U adt)) (counted (λ (n : ℕ). written_adt) (suc n) (map (adt_seen U) adts)) r ∙ ap (λ (w : List ℕ). line w ++ s) (adt_line_is adt.is_enum adt) in
      then_front items (own ∷ []) (map (line_of_adt items) adts) true t s r
      (one_in_front items own t s at (adt_line_stands adt.is_enum adt all.0 valid.0.0 valid.0.1 valid.0.2 valid.0.3))
      (adts_front (suc n) adts s r refl valid.1 all.1)

  -- traits
  method_words_are : (sigs : List Sig) → map written_method (map (sig_seen U) sigs) ≡ map method_words (map (method_of items) sigs)
  method_words_are [] = refl
  method_words_are (sig ∷ sigs) = λ i. (sig.name ++ codes " " ++ in_parentheses (words sig.params i) ++ codes " " ++ sym (word_is heads items read x sig.result) i) ∷ method_words_are sigs i

  params_stand : (name : List ℕ) (ids : List TyId) → BeginsWithSelf name (map (text_under heads items) ids) → AreTypes items.types ids → ParamsStand items name (trees items ids)
  params_stand name [] self all = absurd (no_word self.2)
    where
      no_word : ◌≡◌ {A = List (List ℕ)} [] (self_text self.0 name ∷ self.1) → ⊥
      no_word e = cc e
  params_stand name (id ∷ ids) self all =
      let each = within (id ∷ ids) all in
      ((self.0, word_is heads items read x id ∙ same self.2), types_stand heads items read x names are ids each.1)
    where
      same : text_under heads items id ∷ map (text_under heads items) ids ≡ self_text self.0 name ∷ self.1 → text_under heads items id ≡ self_text self.0 name
      same e = cc e

  methods_stand : (name : List ℕ) (sigs : List Sig) → Every (IsSig items.types) sigs → Every (MethodNamed name) (map (sig_seen U) sigs) → MethodsStand items name (map (method_of items) sigs)
  methods_stand name [] is named = tt
  methods_stand name (sig ∷ sigs) is named = (
    record { named = named.0.0.0; utf8 = named.0.0.1; params = params_stand name sig.params named.0.1 is.0.params; answer = type_stands heads items read x names are sig.result is.0.answer },
    methods_stand name sigs is.1 named.1,
  )

  pub traits_front : (n : ℕ) (traits : List TraitDef) (t r : List ℕ) → t ≡ counted (λ n. trait_text) n (map (trait_seen U) traits) ++ r → EachFrom (TraitValid heads) n (map (trait_seen U) traits)
      → Every (λ def. All (IsSig items.types) def.methods) traits → Fronts items (map (line_of_trait items) traits) true t r
  traits_front n [] t r is valid all = record { front = []; is = is; whole_is = refl; stand = tt }
  traits_front n (def ∷ traits) t r is valid all =
      let s : List ℕ = counted (λ (n : ℕ). trait_text) (suc n) (map (trait_seen U) traits) ++ r in
      let own : Line = line_of_trait items def in
      let at : t ≡ line (line_text own) ++ s =
      is ∙ append_assoc (trait_text (trait_seen U def)) (counted (λ (n : ℕ). trait_text) (suc n) (map (trait_seen U) traits)) r
      ∙ ap (λ (ws : List (List ℕ)). line (codes "trait " ++ def.name ++ codes " " ++ in_braces ws) ++ s) (method_words_are def.methods) in
      then_front items (own ∷ []) (map (line_of_trait items) traits) true t s r
      (one_in_front items own t s at (valid.0.1.0.0, valid.0.1.0.1, methods_stand def.name def.methods (every_from_all (IsSig items.types) def.methods all.0) (every_from_all (MethodNamed def.name) (map (sig_seen U) def.methods) valid.0.1.1)))
      (traits_front (suc n) traits s r refl valid.1 all.1)

  -- impls
  pub impls_front : (n : ℕ) (impls : List ImplDef) (t r : List ℕ) → t ≡ counted (λ n. impl_text heads) n impls ++ r → EachFrom (λ n. ImplValid heads) n impls → Fronts items (map (line_of_impl items) impls) true t r
  impls_front n [] t r is valid = record { front = []; is = is; whole_is = refl; stand = tt }
  impls_front n (def ∷ impls) t r is valid =
      let s : List ℕ = counted (λ (n : ℕ). impl_text heads) (suc n) impls ++ r in
      let own : Line = line_of_impl items def in
      let most_traits = no_fewer_traits heads items x in
      let most_adts = no_fewer_adts heads items x in
      let trait : trait_name heads def.trait_no ≡ trait_name items def.trait_no = sym (trait_same heads items x def.trait_no valid.0.trait) in
      let adt : adt_name heads def.adt ≡ adt_name items def.adt = sym (adt_same heads items x def.adt valid.0.adt) in
      let trait_there = valid.0.trait in
      let adt_there = valid.0.adt in
      let at : t ≡ line (line_text own) ++ s =
      is ∙ append_assoc (impl_text heads def) (counted (λ (n : ℕ). impl_text heads) (suc n) impls) r ∙ (λ i. line (line_text (ImplLine (trait i) (adt i) def.bodies)) ++ s) in
      then_front items (own ∷ []) (map (line_of_impl items) impls) true t s r
      (one_in_front items own t s at (trait_stands items names def.trait_no (omega (arith, trait_there, most_traits)), adt_named items names def.adt (omega (arith, adt_there, most_adts)), valid.0.bodies))
      (impls_front (suc n) impls s r refl valid.1)

  -- closures
  pub closures_front : (n : ℕ) (closures : List ClosureDef) (t r : List ℕ) → t ≡ counted closure_text n (map (closure_seen U) closures) ++ r → EachFrom ClosureValid n (map (closure_seen U) closures)
      → Every (λ def. AreTypes items.types def.captures) closures → Fronts items (numbered (line_of_closure items) n closures) true t r
  closures_front n [] t r is valid all = record { front = []; is = is; whole_is = refl; stand = tt }
  closures_front n (def ∷ closures) t r is valid all =
      let s : List ℕ = counted closure_text (suc n) (map (closure_seen U) closures) ++ r in
      let own : Line = line_of_closure items n def in
      let at : t ≡ line (line_text own) ++ s =
      is ∙ append_assoc (closure_text n (closure_seen U def)) (counted closure_text (suc n) (map (closure_seen U) closures)) r
      ∙ ap (λ (ws : List (List ℕ)). line (codes "closure " ++ decimal n ++ codes " " ++ in_parentheses ws ++ codes " " ++ decimal def.body) ++ s) (words def.captures) in
      then_front items (own ∷ []) (numbered (line_of_closure items) (suc n) closures) true t s r
      (one_in_front items own t s at (valid.0.0, ids_stand def.captures all.0, valid.0.1))
      (closures_front (suc n) closures s r refl valid.1 all.1)

  -- locals
  abbrev local_text : ℕ → Written → List ℕ
  local_text n w = line (codes "local " ++ decimal n ++ codes " " ++ w)

  local_one : (s u : List Written) (t r : List ℕ) → one_local heads s t ≡ Some (u, r) → IsOne (one_local heads) (λ (s : List Written). s) local_text (λ n w. Fits n) s u t r
  local_one s u t r h =
      let (f, found, last) = split (lines.local_read heads (length s) t) (λ f. Some (s ++ f.0 ∷ [], f.1)) (u, r) h in
      let (own, behind) = same_found (s ++ f.0 ∷ []) f.1 u r last in
      record {
        thing = f.0;
        more = sym own;
        is = locals_sound heads (length s) t f.0 f.1 found ∙ ap (λ (w : List ℕ). local_text (length s) f.0 ++ w) behind;
        valid = local_fits heads (length s) t f.0 f.1 found;
      }

  locals_front : (n : ℕ) (ids : List TyId) (t r : List ℕ) → t ≡ counted local_text n (map (text_under heads items) ids) ++ r → EachFrom (λ n w. Fits n) n (map (text_under heads items) ids)
      → Every (λ id. id.0 < length items.types) ids → Fronts items (numbered (line_of_local items) n ids) true t r
  locals_front n [] t r is valid all = record { front = []; is = is; whole_is = refl; stand = tt }
  locals_front n (id ∷ ids) t r is valid all =
      let s : List ℕ = counted local_text (suc n) (map (text_under heads items) ids) ++ r in
      let own : Line = line_of_local items n id in
      let at : t ≡ line (line_text own) ++ s =
      is ∙ append_assoc (local_text n (text_under heads items id)) (counted local_text (suc n) (map (text_under heads items) ids)) r
      ∙ ap (λ (w : List ℕ). local_text n w ++ s) (sym (word_is heads items read x id)) in
      then_front items (own ∷ []) (numbered (line_of_local items) (suc n) ids) true t s r
      (one_in_front items own t s at (valid.0, type_stands heads items read x names are id all.0))
      (locals_front (suc n) ids s r refl valid.1 all.1)

  locals_are : (ids : List TyId) (t : List ℕ) → (locals_read heads t).0 ≡ map (text_under heads items) ids → AreTypes items.types ids → Fronts items (numbered (line_of_local items) 0 ids) true t (locals_read heads t).1
  locals_are ids t told all =
      let f = in_front (one_local heads) (λ (s : List Written). s) local_text (λ n w. Fits n) local_one (length t) [] t in
      let things : f.things ≡ map (text_under heads items) ids = sym f.more ∙ told in
      locals_front 0 ids t (locals_read heads t).1 (f.is ∙ ap (λ (ws : List Written). counted local_text 0 ws ++ (locals_read heads t).1) things) (subst (EachFrom (λ n w. Fits n) 0) things f.valid) (within ids all)

  -- the names of heads can stand
  heads_named : AreNames heads
  heads_named = record {
    adts = λ k d less.
        let (adt, is) = found_at heads.adts k less in
        let most = no_fewer_adts heads items x in
        let own : is_adt_name (adt_name items k) ≡ true = (adt_stands items names k (omega (arith, less, most))).0 in
        subst (λ (adt : Adt). is_adt_name adt.name ≡ true) (sym (get_or_from_slice_get heads.adts k adt d is)) (subst (λ (w : List ℕ). is_adt_name w ≡ true) (adt_same heads items x k less ∙ ap name_of_adt is) own);
    traits = λ k d less.
        let (def, is) = found_at heads.traits k less in
        let most = no_fewer_traits heads items x in
        let own : is_name (trait_name items k) ≡ true = (trait_stands items names k (omega (arith, less, most))).0 in
        subst (λ (def : TraitDef). is_name def.name ≡ true) (sym (get_or_from_slice_get heads.traits k def d is)) (subst (λ (w : List ℕ). is_name w ≡ true) (trait_same heads items x k less ∙ ap name_of_trait is) own);
  }

  -- statements and terminators
  stmt_over : (stmt : Stmt) → StmtLineStands heads (line_of_stmt heads stmt) → (line_of_stmt heads stmt ≡ line_of_stmt items stmt) × LineStands items (line_of_stmt items stmt)
  stmt_over (Stmt.Make to adt variant parts) s =
      let there = named_within heads.adts adt name_of_adt refl s.1.0 in
      let same : adt_name heads adt ≡ adt_name items adt = sym (adt_same heads items x adt there) in
      (ap (λ (name : List ℕ). MakeLine to name variant parts) same, (s.0, subst (IsAdtName items) same (adt_name_up heads items x (adt_name heads adt) s.1), s.2, s.3))
  stmt_over (Stmt.Unsize to trait from) s =
      let there = named_within heads.traits trait name_of_trait refl s.1.0 in
      let same : trait_name heads trait ≡ trait_name items trait = sym (trait_same heads items x trait there) in
      (ap (λ (name : List ℕ). UnsizeLine to name from) same, (s.0, subst (IsTraitName items) same (trait_name_up heads items x (trait_name heads trait) s.1), s.2))
  stmt_over _ s = (refl, s)

  term_over : (term : Term) → TermLineStands heads (line_of_term heads term) → (line_of_term heads term ≡ line_of_term items term) × LineStands items (line_of_term items term)
  term_over (Term.Virtual to trait method args next unwind) s =
      let there = named_within heads.traits trait name_of_trait refl s.1.0 in
      let same : trait_name heads trait ≡ trait_name items trait = sym (trait_same heads items x trait there) in
      (ap (λ (name : List ℕ). VirtualLine to name method args next unwind) same, (s.0, subst (IsTraitName items) same (trait_name_up heads items x (trait_name heads trait) s.1), s.2, s.3, s.4))
  term_over _ s = (refl, s)

  stmts_front : (k : ℕ) (t : List ℕ) → Fronts items (map (line_of_stmt items) (many_within k (statement_read heads) t).0) true t (many_within k (statement_read heads) t).1
  stmts_front zero t = none_in_front items t
  stmts_front (suc k) t = by (statement_read heads t) refl (stmts_front k)
    where
      by : (o : FoundInText Stmt) → statement_read heads t ≡ o
          → ((u : List ℕ) → Fronts items (map (line_of_stmt items) (many_within k (statement_read heads) u).0) true u (many_within k (statement_read heads) u).1)
          → Fronts items (map (line_of_stmt items) (after o (many_within k (statement_read heads)) t).0) true t (after o (many_within k (statement_read heads)) t).1
      by None e deeper = none_in_front items t
      by (Some f) e deeper =
          let sound = statements_sound heads heads_named t f.0 f.1 e in
          let over = stmt_over f.0 sound.1 in
          then_front items (line_of_stmt items f.0 ∷ []) (map (line_of_stmt items) (many_within k (statement_read heads) f.1).0) true t f.1 (many_within k (statement_read heads) f.1).1
          (one_in_front items (line_of_stmt items f.0) t f.1 (sound.0 ∙ ap (λ (l : Line). line (line_text l) ++ f.1) over.0) over.1) (deeper f.1)

  -- a block
  block_front : (n : ℕ) (t : List ℕ) (block : Block) (whole : Bool) (r : List ℕ) → code_read heads n t ≡ Some ((block, whole), r) → Fronts items (lines_of_block items n block) whole t r
  block_front n t block whole r h =
      let (head, found, more) = split (lines.block_read n t) (λ head. Some (code_behind heads head.0 (many (statement_read heads) head.1))) ((block, whole), r) h in
      let m : List Stmt × List ℕ = many (statement_read heads) head.1 in
      let own : Line = BlockLine n head.0.0 head.0.1 in
      let opened : Fronts items (own ∷ map (line_of_stmt items) m.0) true t m.1 =
      then_front items (own ∷ []) (map (line_of_stmt items) m.0) true t head.1 m.1
      (one_in_front items own t head.1 (blocks_sound n t head.0.0 head.0.1 head.1 found) (block_fits n t head.0.0 head.0.1 head.1 found)) (stmts_front (length head.1) head.1) in
      by head.0 m opened (terminator_read heads m.1) refl more
    where
      by : (head : Kind × ℕ) (m : List Stmt × List ℕ) → Fronts items (BlockLine n head.0 head.1 ∷ map (line_of_stmt items) m.0) true t m.1 → (o : FoundInText Term) → terminator_read heads m.1 ≡ o
          → ◌≡◌ {A = FoundInText (Block × Bool)} (Some (closed head m.0 m.1 o)) (Some ((block, whole), r)) → Fronts items (lines_of_block items n block) whole t r
      by head m opened None e more =
          let made : Block = record { kind = head.0; rank = head.1; stmts = m.0; term = Term.Return } in
          let (own, behind) = same_found (made, false) m.1 (block, whole) r more in
          subst (λ (q : Block × Bool). Fronts items (lines_of_block items n q.0) q.1 t r) own
          (subst (λ (r : List ℕ). Fronts items (lines_of_block items n made) false t r) behind
          (broken_off items (BlockLine n head.0 head.1 ∷ map (line_of_stmt items) m.0) (TermLine Term.Return) t m.1 (tt, tt) opened))
      by head m opened (Some f) e more =
          let made : Block = record { kind = head.0; rank = head.1; stmts = m.0; term = f.0 } in
          let (own, behind) = same_found (made, true) f.1 (block, whole) r more in
          let sound = terminators_sound heads heads_named m.1 f.0 f.1 e in
          let over = term_over f.0 sound.1 in
          subst (λ (q : Block × Bool). Fronts items (lines_of_block items n q.0) q.1 t r) own
          (subst (λ (r : List ℕ). Fronts items (lines_of_block items n made) true t r) behind
          (then_front items (BlockLine n head.0 head.1 ∷ map (line_of_stmt items) m.0) (line_of_term items f.0 ∷ []) true t m.1 f.1 opened
          (one_in_front items (line_of_term items f.0) m.1 f.1 (sound.0 ∙ ap (λ (l : Line). line (line_text l) ++ f.1) over.0) over.1)))

  blocks_front : (k n : ℕ) (t : List ℕ)
      → Fronts items (lines_each (lines_of_block items) n (until_within k (code_read heads) n t).0.0) (until_within k (code_read heads) n t).0.1 t (until_within k (code_read heads) n t).1
  blocks_front zero n t = none_in_front items t
  blocks_front (suc k) n t = by (code_read heads n t) refl (blocks_front k (suc n))
    where
      by : (o : FoundInText (Block × Bool)) → code_read heads n t ≡ o
          → ((u : List ℕ) → Fronts items (lines_each (lines_of_block items) (suc n) (until_within k (code_read heads) (suc n) u).0.0) (until_within k (code_read heads) (suc n) u).0.1 u (until_within k (code_read heads) (suc n) u).1)
          → Fronts items (lines_each (lines_of_block items) n (goes_on o (until_within k (code_read heads) (suc n)) t).0.0) (goes_on o (until_within k (code_read heads) (suc n)) t).0.1 t (goes_on o (until_within k (code_read heads) (suc n)) t).1
      by None e deeper = none_in_front items t
      by (Some ((block, false), r)) e deeper =
          same_front items (lines_of_block items n block) (lines_of_block items n block ++ []) false t r (sym (append-nil (lines_of_block items n block))) (block_front n t block false r e)
      by (Some ((block, true), r)) e deeper =
          let q : (List Block × Bool) × List ℕ = until_within k (code_read heads) (suc n) r in
          then_front items (lines_of_block items n block) (lines_each (lines_of_block items) (suc n) q.0.0) q.0.1 t r q.1 (block_front n t block true r e) (deeper r)

  -- a body
  body_front : (n : ℕ) (t : List ℕ) (name : List ℕ) (body : Body) (whole : Bool) (r : List ℕ) → body_read heads n t ≡ Some ((body_told heads items name body, whole), r) → body_name items n ≡ name → AreTypes items.types body.locals
      → Fronts items (lines_of_body items n body) whole t r
  body_front n t name body whole r h called all =
      let (head, found, more) = split (lines.body_read n t) (λ head. Some (with_locals heads head.0 (locals_read heads head.1))) ((body_told heads items name body, whole), r) h in
      let q : List Written × List ℕ = locals_read heads head.1 in
      let code : (List Block × Bool) × List ℕ = blocks_read heads q.1 in
      let made : BodyTold = record { name = head.0.0; params = head.0.1; locals = q.0; blocks = code.0.0 } in
      let (pair, behind) = same_found (made, code.0.1) code.1 (body_told heads items name body, whole) r more in
      let own : made ≡ body_told heads items name body = ap (λ (q : BodyTold × Bool). q.0) pair in
      let flag : code.0.1 ≡ whole = ap (λ (q : BodyTold × Bool). q.1) pair in
      let name_is : head.0.0 ≡ body_name items n = ap (λ (b : BodyTold). b.name) own ∙ sym called in
      let params_is : head.0.1 ≡ body.params = ap (λ (b : BodyTold). b.params) own in
      let locals_is : q.0 ≡ map (text_under heads items) body.locals = ap (λ (b : BodyTold). b.locals) own in
      let blocks_is : code.0.0 ≡ body.blocks = ap (λ (b : BodyTold). b.blocks) own in
      let sound = bodies_sound n t head.0.0 head.0.1 head.1 found in
      let fits = body_fits n t head.0.0 head.0.1 head.1 found in
      let line_is : Line = BodyLine n (body_name items n) body.params in
      let stands : LineStands items line_is = (
        fits.0,
        subst (λ (w : List ℕ). is_name w ≡ true) name_is sound.1,
        subst (λ (w : List ℕ). is_utf8 w ≡ true) name_is sound.2,
        subst Fits params_is fits.1,
      ) in
      let opened : Fronts items (line_is ∷ numbered (line_of_local items) 0 body.locals) true t q.1 =
      then_front items (line_is ∷ []) (numbered (line_of_local items) 0 body.locals) true t head.1 q.1
      (one_in_front items line_is t head.1 (sound.0 ∙ (λ i. line (line_text (BodyLine n (name_is i) (params_is i))) ++ head.1)) stands) (locals_are body.locals head.1 locals_is all) in
      let blocks : Fronts items (lines_each (lines_of_block items) 0 body.blocks) whole q.1 r =
      subst (λ (bs : List Block). Fronts items (lines_each (lines_of_block items) 0 bs) whole q.1 r) blocks_is
      (subst (λ (w : Bool). Fronts items (lines_each (lines_of_block items) 0 code.0.0) w q.1 r) flag
      (subst (λ (s : List ℕ). Fronts items (lines_each (lines_of_block items) 0 code.0.0) code.0.1 q.1 s) behind (blocks_front (length q.1) 0 q.1))) in
      then_front items (line_is ∷ numbered (line_of_local items) 0 body.locals) (lines_each (lines_of_block items) 0 body.blocks) whole t q.1 r opened blocks

  pub bodies_front : (k n : ℕ) (t : List ℕ) (sigs : List Sig) (bodies : List Body) → bodies_told heads items sigs bodies ≡ (until_within k (body_read heads) n t).0.0 → AreSigned items sigs bodies
      → EachFrom (λ n sig. body_name items n ≡ sig.name) n sigs → Every (λ body. AreTypes items.types body.locals) bodies
      → Fronts items (lines_each (lines_of_body items) n bodies) (until_within k (body_read heads) n t).0.1 t (until_within k (body_read heads) n t).1
  bodies_front zero n t [] [] told signed called all = none_in_front items t
  bodies_front zero n t (sig ∷ sigs) (body ∷ bodies) told signed called all = absurd (some_told told)
    where
      some_told : ◌≡◌ {A = List BodyTold} (body_told heads items sig.name body ∷ bodies_told heads items sigs bodies) [] → ⊥
      some_told e = cc e
  bodies_front k n t [] (body ∷ bodies) told signed called all = absurd signed
  bodies_front k n t (sig ∷ sigs) [] told signed called all = absurd signed
  bodies_front (suc k) n t [] [] told signed called all = by (body_read heads n t) told
    where
      by : (o : FoundInText (BodyTold × Bool)) → ◌≡◌ {A = List BodyTold} [] (goes_on o (until_within k (body_read heads) (suc n)) t).0.0
          → Fronts items [] (goes_on o (until_within k (body_read heads) (suc n)) t).0.1 t (goes_on o (until_within k (body_read heads) (suc n)) t).1
      by None e = none_in_front items t
      by (Some ((y, false), r)) e = absurd (some_told e)
        where
          some_told : ◌≡◌ {A = List BodyTold} [] (y ∷ []) → ⊥
          some_told e = cc e
      by (Some ((y, true), r)) e = absurd (some_told e)
        where
          some_told : ◌≡◌ {A = List BodyTold} [] (y ∷ (until_within k (body_read heads) (suc n) r).0.0) → ⊥
          some_told e = cc e
  bodies_front (suc k) n t (sig ∷ sigs) (body ∷ bodies) told signed called all =
      by (body_read heads n t) refl told (λ u e. bodies_front k (suc n) u sigs bodies e signed.1 called.1 all.1)
    where
      own : BodyTold
      own = body_told heads items sig.name body

      by : (o : FoundInText (BodyTold × Bool)) → body_read heads n t ≡ o → own ∷ bodies_told heads items sigs bodies ≡ (goes_on o (until_within k (body_read heads) (suc n)) t).0.0
          → ((u : List ℕ) → bodies_told heads items sigs bodies ≡ (until_within k (body_read heads) (suc n) u).0.0
          → Fronts items (lines_each (lines_of_body items) (suc n) bodies) (until_within k (body_read heads) (suc n) u).0.1 u (until_within k (body_read heads) (suc n) u).1)
          → Fronts items (lines_of_body items n body ++ lines_each (lines_of_body items) (suc n) bodies) (goes_on o (until_within k (body_read heads) (suc n)) t).0.1 t (goes_on o (until_within k (body_read heads) (suc n)) t).1
      by None e same deeper = absurd (some_told same)
        where
          some_told : own ∷ bodies_told heads items sigs bodies ≡ [] → ⊥
          some_told e = cc e
      by (Some ((y, false), r)) e same deeper =
          let first : y ≡ own = first_same same in
          let none : bodies_told heads items sigs bodies ≡ [] = rest_same same in
          let no_bodies : bodies ≡ [] = none_told sigs bodies signed.1 none in
          same_front items (lines_of_body items n body) (lines_of_body items n body ++ lines_each (lines_of_body items) (suc n) bodies) false t r
          (sym (ap (λ (bs : List Body). lines_of_body items n body ++ lines_each (lines_of_body items) (suc n) bs) no_bodies ∙ append-nil (lines_of_body items n body)))
          (body_front n t sig.name body false r (e ∙ ap (λ (b : BodyTold). Some ((b, false), r)) first) called.0 all.0)
        where
          first_same : own ∷ bodies_told heads items sigs bodies ≡ y ∷ [] → y ≡ own
          first_same e = cc e

          rest_same : own ∷ bodies_told heads items sigs bodies ≡ y ∷ [] → bodies_told heads items sigs bodies ≡ []
          rest_same e = cc e

          none_told : (sigs : List Sig) (bodies : List Body) → AreSigned items sigs bodies → bodies_told heads items sigs bodies ≡ [] → bodies ≡ []
          none_told sigs [] signed e = refl
          none_told [] (b ∷ bs) signed e = absurd signed
          none_told (s ∷ ss) (b ∷ bs) signed e = absurd (cc e)
      by (Some ((y, true), r)) e same deeper =
          let q : (List BodyTold × Bool) × List ℕ = until_within k (body_read heads) (suc n) r in
          then_front items (lines_of_body items n body) (lines_each (lines_of_body items) (suc n) bodies) q.0.1 t r q.1
          (body_front n t sig.name body true r (e ∙ ap (λ (b : BodyTold). Some ((b, true), r)) (first_same same)) called.0 all.0) (deeper r (rest_same same))
        where
          first_same : own ∷ bodies_told heads items sigs bodies ≡ y ∷ (until_within k (body_read heads) (suc n) r).0.0 → y ≡ own
          first_same e = cc e

          rest_same : own ∷ bodies_told heads items sigs bodies ≡ y ∷ (until_within k (body_read heads) (suc n) r).0.0 → bodies_told heads items sigs bodies ≡ (until_within k (body_read heads) (suc n) r).0.0
          rest_same e = cc e
