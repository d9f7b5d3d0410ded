-- Two graphs that were read of one text are equal as compared, where no two structs or enums of the one have one name, and no two traits.
use Rattle.std.proofs.Common.{◌≡◌, ℕ, zero, suc, ◌+◌, ◌-◌, ◌^◌, ◌≤◌, Bool, true, false, if◌then◌else◌, List, [], ◌∷◌, map, take, drop, length, codes, Option, Some, None, nat_lt, slice_get, refl, ap, sym, subst, ◌∙◌, arith}
use Rattle.std.specs.Prelude.{option_map}
use Rattle.std.specs.List.{list_all}
use Rattle.std.proofs.lemmas.Bool.{false≢true}
use Rattle.std.proofs.lemmas.List.{take-map}
use Rattle.std.proofs.lemmas.Option.{none-some, same_Some, slice_get-map, slice_get_within}
use Rattle.mir_ty.specs.declared.adt.Adt.{Adt}
use Rattle.mir_ty.specs.declared.def.ClosureDef.{ClosureDef}
use Rattle.mir_ty.specs.declared.def.Sig.{Sig}
use Rattle.mir_ty.specs.declared.def.TraitDef.{TraitDef}
use Rattle.mir_ty.specs.declared.ty.TyId.{TyId}
use Rattle.mir_ty.specs.ItemTable.{ItemTable}
use Rattle.mir_ty.specs.Named.{adt_name, name_of_adt, sig_name}
use Rattle.cfg_graph.specs.declared.graph.Body.{Body}
use Rattle.cfg_graph.specs.declared.graph.Graph.{Graph}
use Rattle.cfg_graph.specs.WellFormed.NameFaults.{same_name, stands_in_names}
use Rattle.listing_write.specs.Compared.{Written, SigSeen, BodySeen, numbered, adt_seen, trait_seen, closure_seen, sig_seen, body_seen, seen}
use Rattle.listing_write.specs.Listing.{listing}
use Rattle.listing_write.specs.Lists.{line}
use Rattle.listing_write.specs.Reading.Words.{place_in}
use Rattle.listing_write.specs.Types.{found_text, type_within, type_text, deepest, trait_name, name_of_trait}
use Rattle.listing_write.proofs.Reading.Basics.{strip}
use Rattle.listing_write.proofs.Reading.Bodies.{BodyRead, body_read_seen, body_read}
use Rattle.listing_write.proofs.Reading.Items.{adt_read, trait_read, impl_read, closure_read}
use Rattle.listing_write.proofs.Reading.Listed.{found_at, same_as_itself}
use Rattle.listing_write.proofs.Reading.Types.{name_stands, adt_name_stands}
use Rattle.mir_text.specs.Laws.{NamesAreApart}
use Rattle.mir_text.proofs.Alike.Enough.{closures_of}
use Rattle.mir_text.proofs.Alike.One.{signed_at, behind_first, adt_names_same, trait_names_same, adts_right, traits_right, closures_right, impls_right, bodies_right, enough_there}
use Rattle.listing_write.proofs.Reading.Law.{the_end, at_bodies, at_closures, at_impls, at_traits, at_adts, in_rows, rows_alike}
use Rattle.mir_text.proofs.Alike.Readable.{Readable, names}
use Rattle.listing_write.proofs.Reading.Same.{same_length}
use Rattle.mir_text.specs.BodiesRead.{IsResultOf}
use Rattle.listing_parts.proofs.Splits.{same_is}

-- the place of a name has it
placed : (xs : List (List ℕ)) (n : ℕ) (name : List ℕ) → slice_get xs n ≡ Some name → slice_get xs (place_in xs name) ≡ Some name
placed [] n name is = absurd (none-some name is)
placed (x ∷ xs) zero name is = by (same_name name x) refl
  where
    by : (b : Bool) → same_name name x ≡ b → slice_get (x ∷ xs) (if b then 0 else suc (place_in xs name)) ≡ Some name
    by true e = is
    by false e = absurd (false≢true (sym e ∙ ap (same_name name) (same_Some x name is) ∙ same_as_itself name))
placed (x ∷ xs) (suc n) name is = by (same_name name x) refl (placed xs n name is)
  where
    by : (b : Bool) → same_name name x ≡ b → slice_get xs (place_in xs name) ≡ Some name → slice_get (x ∷ xs) (if b then 0 else suc (place_in xs name)) ≡ Some name
    by true e deeper = ap (λ (w : List ℕ). Some w) (sym (same_is name x e))
    by false e deeper = deeper

-- a signature, whether there are locals or none
abbrev sig_of : List ℕ → ℕ → List Written → SigSeen
sig_of name params [] = (name, [], codes "()")
sig_of name params (answer ∷ others) = (name, take params others, answer)

abbrev whole : BodyRead → BodySeen
whole read = record { signature = Some (sig_of read.name read.params read.locals); params = read.params; locals = read.locals; blocks = read.blocks }

none_taken : (n : ℕ) → ◌≡◌ {A = List TyId} (take n (drop 1 [])) []
none_taken zero = refl
none_taken (suc n) = refl

unit_text : (items : ItemTable) (id : TyId) → IsResultOf items [] id → type_text items id ≡ codes "()"
unfolding type_text
unit_text items id is = ap (found_text items (type_within items (deepest - 1))) is

sig_told : (items : ItemTable) (params : ℕ) (locals : List TyId) (sig : Sig) → sig.params ≡ take params (drop 1 locals) → IsResultOf items locals sig.result
    → sig_of sig.name params (map (type_text items) locals) ≡ sig_seen items sig
sig_told items params [] sig own answer = λ i. (sig.name, map (type_text items) (sym (own ∙ none_taken params) i), sym (unit_text items sig.result answer) i)
sig_told items params (first ∷ others) sig own answer =
    let same : take params (map (type_text items) others) ≡ map (type_text items) sig.params =
    take-map (type_text items) params others ∙ ap (λ (ids : List TyId). map (type_text items) (take params ids)) (sym (behind_first first others)) ∙ ap (map (type_text items)) (sym own) in
    λ i. (sig.name, same i, type_text items (sym answer i))

module _ (graph : Graph) (r : Readable graph) where
  abbrev T : ItemTable
  T = graph.items

  sig_is : (n : ℕ) (body : Body) → slice_get graph.bodies n ≡ Some body → body_seen T n body ≡ whole (body_read_seen T n body)
  sig_is n body is =
      let (sig, at, told) = signed_at T T.bodies graph.bodies r.signed n body is in
      let signature : option_map (sig_seen T) (slice_get T.bodies n) ≡ Some (sig_of (sig_name (slice_get T.bodies n)) body.params (map (type_text T) body.locals)) =
      ap (option_map (sig_seen T)) at ∙ ap (λ (s : SigSeen). Some s) (sym (sig_told T body.params body.locals sig told.params told.answer))
      ∙ ap (λ (o : Option Sig). Some (sig_of (sig_name o) body.params (map (type_text T) body.locals))) (sym at) in
      λ i. record { signature = signature i; params = body.params; locals = map (type_text T) body.locals; blocks = body.blocks }

  whole_from : (k : ℕ) (bodies : List Body) → ((n : ℕ) (body : Body) → slice_get bodies n ≡ Some body → body_seen T (k + n) body ≡ whole (body_read_seen T (k + n) body))
      → numbered (body_seen T) k bodies ≡ map whole (numbered (body_read_seen T) k bodies)
  whole_from k [] h = refl
  whole_from k (body ∷ bodies) h =
      let first = subst (λ (m : ℕ). body_seen T m body ≡ whole (body_read_seen T m body)) (let e : k + 0 ≡ k = omega arith in e) (h 0 body refl) in
      let others = whole_from (suc k) bodies
      (λ n b is. subst (λ (m : ℕ). body_seen T m b ≡ whole (body_read_seen T m b)) (let e : k + suc n ≡ suc k + n = omega arith in e) (h (suc n) b is)) in
      λ i. first i ∷ others i

  whole_bodies : numbered (body_seen T) 0 graph.bodies ≡ map whole (numbered (body_read_seen T) 0 graph.bodies)
  whole_bodies =
      whole_from 0 graph.bodies
      (λ n body is. subst (λ (m : ℕ). body_seen T m body ≡ whole (body_read_seen T m body)) (let e : n ≡ 0 + n = omega arith in e) (sig_is n body is))

module _ (left right : Graph) (l : Readable left) (r : Readable right) (apart : NamesAreApart left.items) (one : listing left ≡ listing right) (more : List ClosureDef) (much : 2 ^ 32 ≤ length more) where
  abbrev L : ItemTable
  L = left.items

  abbrev R : ItemTable
  R = right.items

  adts_too : (map (adt_seen L) L.adts ≡ map (adt_seen R) R.adts) × (at_traits left ≡ at_traits right)
  adts_too =
      rows_alike adt_read adt_read (at_adts left) (at_adts right) (map (adt_seen L) L.adts) (map (adt_seen R) R.adts) (at_traits left) (at_traits right) refl
      (same_Some (at_adts left) (at_adts right) (ap (strip (line (codes "mirdrop 1"))) (sym (in_rows left) ∙ one ∙ in_rows right))) (adts_right left l more much) (adts_right right r more much)

  traits_too : (map (trait_seen L) L.traits ≡ map (trait_seen R) R.traits) × (at_impls left ≡ at_impls right)
  traits_too =
      rows_alike trait_read trait_read (at_traits left) (at_traits right) (map (trait_seen L) L.traits) (map (trait_seen R) R.traits) (at_impls left) (at_impls right) refl adts_too.1
      (traits_right left l more much) (traits_right right r more much)

  abbrev adt_no : List ℕ → ℕ
  adt_no = place_in (map (λ (adt : Adt). adt.name) L.adts)

  abbrev trait_no : List ℕ → ℕ
  trait_no = place_in (map (λ (def : TraitDef). def.name) L.traits)

  adt_told : (n : ℕ) (adt : Adt) → slice_get L.adts n ≡ Some adt → adt_no adt.name ≡ n
  adt_told n adt is =
      by (slice_get L.adts (adt_no adt.name)) refl
      (sym (slice_get-map (λ (adt : Adt). adt.name) L.adts (adt_no adt.name)) ∙ placed (map (λ (adt : Adt). adt.name) L.adts) n adt.name (slice_get-map (λ (adt : Adt). adt.name) L.adts n ∙ ap (option_map (λ (adt : Adt). adt.name)) is))
    where
      by : (o : Option Adt) → slice_get L.adts (adt_no adt.name) ≡ o → option_map (λ (adt : Adt). adt.name) (slice_get L.adts (adt_no adt.name)) ≡ Some adt.name → adt_no adt.name ≡ n
      by None e h = absurd (none-some adt.name (sym (ap (option_map (λ (adt : Adt). adt.name)) e) ∙ h))
      by (Some other) e h =
          let same : other.name ≡ adt.name = same_Some other.name adt.name (sym (ap (option_map (λ (adt : Adt). adt.name)) e) ∙ h) in
          apart.adts (adt_no adt.name) n (slice_get_within L.adts (adt_no adt.name) other e) (slice_get_within L.adts n adt is) (ap name_of_adt e ∙ same ∙ sym (ap name_of_adt is))

  trait_told : (n : ℕ) (def : TraitDef) → slice_get L.traits n ≡ Some def → trait_no def.name ≡ n
  trait_told n def is =
      by (slice_get L.traits (trait_no def.name)) refl
      (sym (slice_get-map (λ (def : TraitDef). def.name) L.traits (trait_no def.name)) ∙ placed (map (λ (def : TraitDef). def.name) L.traits) n def.name (slice_get-map (λ (def : TraitDef). def.name) L.traits n ∙ ap (option_map (λ (def : TraitDef). def.name)) is))
    where
      by : (o : Option TraitDef) → slice_get L.traits (trait_no def.name) ≡ o → option_map (λ (def : TraitDef). def.name) (slice_get L.traits (trait_no def.name)) ≡ Some def.name → trait_no def.name ≡ n
      by None e h = absurd (none-some def.name (sym (ap (option_map (λ (def : TraitDef). def.name)) e) ∙ h))
      by (Some other) e h =
          let same : other.name ≡ def.name = same_Some other.name def.name (sym (ap (option_map (λ (def : TraitDef). def.name)) e) ∙ h) in
          apart.traits (trait_no def.name) n (slice_get_within L.traits (trait_no def.name) other e) (slice_get_within L.traits n def is) (ap name_of_trait e ∙ same ∙ sym (ap name_of_trait is))

  -- names tell the same numbers in both
  adts_left : (n : ℕ) → nat_lt n (length L.adts) ≡ true → (list_all stands_in_names (adt_name L n) ≡ true) × (adt_no (adt_name L n) ≡ n)
  adts_left n h =
      let (adt, is) = found_at L.adts n h in
      let own = (names left l more much).adts n h in
      ((name_stands (adt_name L n) (adt_name_stands (adt_name L n) own).0).1, subst (λ (o : Option Adt). adt_no (name_of_adt o) ≡ n) (sym is) (adt_told n adt is))

  traits_left : (n : ℕ) → nat_lt n (length L.traits) ≡ true → (list_all stands_in_names (trait_name L n) ≡ true) × (trait_no (trait_name L n) ≡ n)
  traits_left n h =
      let (def, is) = found_at L.traits n h in
      ((name_stands (trait_name L n) ((names left l more much).traits n h)).1, subst (λ (o : Option TraitDef). trait_no (name_of_trait o) ≡ n) (sym is) (trait_told n def is))

  adts_tell : (n : ℕ) → nat_lt n (length R.adts) ≡ true → (list_all stands_in_names (adt_name R n) ≡ true) × (adt_no (adt_name R n) ≡ n)
  adts_tell n h =
      subst (λ (name : List ℕ). (list_all stands_in_names name ≡ true) × (adt_no name ≡ n)) (adt_names_same L R adts_too.0 n) (adts_left n (ap (nat_lt n) (same_length (adt_seen L) (adt_seen R) L.adts R.adts adts_too.0) ∙ h))

  traits_tell : (n : ℕ) → nat_lt n (length R.traits) ≡ true → (list_all stands_in_names (trait_name R n) ≡ true) × (trait_no (trait_name R n) ≡ n)
  traits_tell n h =
      subst (λ (name : List ℕ). (list_all stands_in_names name ≡ true) × (trait_no name ≡ n)) (trait_names_same L R traits_too.0 n) (traits_left n (ap (nat_lt n) (same_length (trait_seen L) (trait_seen R) L.traits R.traits traits_too.0) ∙ h))

  impls_too : (L.impls ≡ R.impls) × (at_closures left ≡ at_closures right)
  impls_too =
      rows_alike (impl_read adt_no trait_no) (impl_read adt_no trait_no) (at_impls left) (at_impls right) L.impls R.impls (at_closures left) (at_closures right) refl traits_too.1
      (impls_right left l more much adt_no trait_no adts_left traits_left) (impls_right right r more much adt_no trait_no adts_tell traits_tell)

  closures_too : (map (closure_seen L) L.closures ≡ map (closure_seen R) R.closures) × (at_bodies left ≡ at_bodies right)
  closures_too =
      rows_alike closure_read closure_read (at_closures left) (at_closures right) (map (closure_seen L) L.closures) (map (closure_seen R) R.closures) (at_bodies left) (at_bodies right)
      refl impls_too.1 (closures_right left l more much) (closures_right right r more much)

  bodies_too : numbered (body_read_seen L) 0 left.bodies ≡ numbered (body_read_seen R) 0 right.bodies
  bodies_too =
      (rows_alike (body_read adt_no trait_no) (body_read adt_no trait_no) (at_bodies left) (at_bodies right) (numbered (body_read_seen L) 0 left.bodies) (numbered (body_read_seen R) 0 right.bodies)
      (the_end left) (the_end right) refl closures_too.1 (bodies_right left l more much adt_no trait_no adts_left traits_left) (bodies_right right r more much adt_no trait_no adts_tell traits_tell)).0

  all_seen : seen left ≡ seen right
  all_seen =
      let bodies : numbered (body_seen L) 0 left.bodies ≡ numbered (body_seen R) 0 right.bodies = whole_bodies left l ∙ ap (map whole) bodies_too ∙ sym (whole_bodies right r) in
      λ i. record { adts = adts_too.0 i; traits = traits_too.0 i; impls = impls_too.0 i; closures = closures_too.0 i; bodies = bodies i }

pub apart_seen : (left right : Graph) → Readable left → Readable right → NamesAreApart left.items → listing left ≡ listing right → seen left ≡ seen right
apart_seen left right l r apart one = all_seen left right l r apart one (closures_of (2 ^ 32)) enough_there
