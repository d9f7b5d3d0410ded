-- Two well formed graphs of one listing are equal as compared: the listing is read, row by row, into what is compared.
use Rattle.std.proofs.Common.{◌≡◌, ℕ, suc, ◌+◌, true, false, ◌==◌, List, [], ◌∷◌, ◌++◌, map, flat_map, take, length, codes, Option, Some, None, slice_get, refl, ap, sym, subst, ◌∙◌, arith, eqb-true}
use Rattle.std.specs.Prelude.{option_map}
use Rattle.std.specs.Option.{option_map_or}
use Rattle.std.proofs.lemmas.Bool.{and_parts, false≢true}
use Rattle.std.proofs.lemmas.List.{take-map}
use Rattle.std.proofs.lemmas.Option.{same_Some}
use Rattle.store_model.specs.Places.TypeForms.{same_id, same_ids}
use Rattle.mir_ty.specs.declared.ty.TyId.{TyId}
use Rattle.mir_ty.specs.declared.def.Sig.{Sig}
use Rattle.mir_ty.specs.ItemTable.{ItemTable}
use Rattle.mir_ty.specs.Named.{sig_name}
use Rattle.cfg_graph.specs.declared.graph.Body.{Body}
use Rattle.cfg_graph.specs.declared.graph.Graph.{Graph}
use Rattle.cfg_graph.specs.WellFormed.LineFaults.{has_sig, is_sig_of}
use Rattle.listing_write.specs.Compared.{Written, AdtSeen, SigSeen, BodySeen, numbered, adt_seen, trait_seen, closure_seen, sig_seen, body_seen, IsListed, OneGraphAListing}
use Rattle.listing_write.specs.Items.{adt_line, trait_line, impl_line, closure_line, counted, items_text}
use Rattle.listing_write.specs.Lists.{line}
use Rattle.listing_write.specs.Listing.{whole_body_text, listing}
use Rattle.listing_write.specs.Types.{type_text}
use Rattle.listing_write.specs.Reading.Words.{place_in}
use Rattle.listing_write.proofs.Reading.Basics.{FoundInText, strip, behind3, behind4}
use Rattle.listing_write.proofs.Reading.Rows.{EveryFrom, many, flat_counted, none_before}
use Rattle.listing_write.proofs.Reading.Bodies.{BodyRead, body_read_seen, body_read, bodies_read}
use Rattle.listing_write.proofs.Reading.Items.{adt_read, adts_read, trait_read, traits_read, impl_read, impls_read, closure_read, closures_read}
use Rattle.listing_write.proofs.Reading.Listed.{every_from_by, are_named, good_adts, good_traits, good_impls, good_closures, good_bodies, adt_no, trait_no, adts_told, traits_told, sig_holds}

none_flat : {X Z : Type 0} (read : List ℕ → FoundInText Z) (text : X → List ℕ) → ((x : X) (t : List ℕ) → read (text x ++ t) ≡ None)
    → (xs : List X) (r : List ℕ) → read r ≡ None → read (flat_map text xs ++ r) ≡ None
none_flat read text never xs r h =
    ap (λ (w : List ℕ). read (w ++ r)) (flat_counted text 0 xs) ∙ none_before read (λ (n : ℕ). text) (λ n x t. never x t) 0 xs r h

-- the rows of a listing, each before what is behind it
module _ (graph : Graph) where
  abbrev pub the_end : List ℕ
  the_end = line (codes "end")

  abbrev pub at_bodies : List ℕ
  at_bodies = counted (whole_body_text graph.items) 0 graph.bodies ++ the_end

  abbrev pub at_closures : List ℕ
  at_closures = counted (closure_line graph.items) 0 graph.items.closures ++ at_bodies

  abbrev pub at_impls : List ℕ
  at_impls = flat_map (impl_line graph.items) graph.items.impls ++ at_closures

  abbrev pub at_traits : List ℕ
  at_traits = flat_map (trait_line graph.items) graph.items.traits ++ at_impls

  abbrev pub at_adts : List ℕ
  at_adts = flat_map (adt_line graph.items) graph.items.adts ++ at_traits

  pub in_rows : listing graph ≡ line (codes "mirdrop 1") ++ at_adts
  in_rows =
      behind3 (line (codes "mirdrop 1")) (items_text graph.items) (counted (whole_body_text graph.items) 0 graph.bodies) the_end
      ∙ ap (λ (w : List ℕ). line (codes "mirdrop 1") ++ w)
      (behind4 (flat_map (adt_line graph.items) graph.items.adts) (flat_map (trait_line graph.items) graph.items.traits) (flat_map (impl_line graph.items) graph.items.impls)
      (counted (closure_line graph.items) 0 graph.items.closures) at_bodies)

  not_at_bodies : {Z : Type 0} (read : List ℕ → FoundInText Z) → ((n : ℕ) (body : Body) (t : List ℕ) → read (whole_body_text graph.items n body ++ t) ≡ None) → read the_end ≡ None → read at_bodies ≡ None
  not_at_bodies read never h = none_before read (whole_body_text graph.items) never 0 graph.bodies the_end h

  pub no_closure : closure_read at_bodies ≡ None
  no_closure = not_at_bodies closure_read (λ n body t. refl) refl

  pub no_impl : (adt_no trait_no : List ℕ → ℕ) → impl_read adt_no trait_no at_closures ≡ None
  no_impl adt_no trait_no =
      none_before (impl_read adt_no trait_no) (closure_line graph.items) (λ n def t. refl) 0 graph.items.closures at_bodies
      (not_at_bodies (impl_read adt_no trait_no) (λ n body t. refl) refl)

  pub no_trait : trait_read at_impls ≡ None
  no_trait =
      none_flat trait_read (impl_line graph.items) (λ def t. refl) graph.items.impls at_closures
      (none_before trait_read (closure_line graph.items) (λ n def t. refl) 0 graph.items.closures at_bodies (not_at_bodies trait_read (λ n body t. refl) refl))

  pub no_adt : adt_read at_traits ≡ None
  no_adt =
      none_flat adt_read (trait_line graph.items) (λ def t. refl) graph.items.traits at_impls
      (none_flat adt_read (impl_line graph.items) (λ def t. refl) graph.items.impls at_closures
      (none_before adt_read (closure_line graph.items) (λ n def t. refl) 0 graph.items.closures at_bodies (not_at_bodies adt_read (λ n body t. refl) refl)))

  module _ (listed : IsListed graph) where
    pub adts_are : many adt_read at_adts ≡ (map (adt_seen graph.items) graph.items.adts, at_traits)
    adts_are = adts_read graph.items (are_named graph listed) graph.items.adts (good_adts graph listed) at_traits no_adt

    pub traits_are : many trait_read at_traits ≡ (map (trait_seen graph.items) graph.items.traits, at_impls)
    traits_are = traits_read graph.items (are_named graph listed) graph.items.traits (good_traits graph listed) at_impls no_trait

    abbrev pub own_adt : List ℕ → ℕ
    own_adt = adt_no graph listed

    abbrev pub own_trait : List ℕ → ℕ
    own_trait = trait_no graph listed

    pub impls_are : many (impl_read own_adt own_trait) at_impls ≡ (graph.items.impls, at_closures)
    impls_are = impls_read own_adt own_trait graph.items graph.items.impls (good_impls graph listed) at_closures (no_impl own_adt own_trait)

    pub closures_are : many closure_read at_closures ≡ (map (closure_seen graph.items) graph.items.closures, at_bodies)
    closures_are = closures_read graph.items (are_named graph listed) graph.items.closures (good_closures graph listed) at_bodies no_closure

    pub bodies_are : many (body_read own_adt own_trait) at_bodies ≡ (numbered (body_read_seen graph.items) 0 graph.bodies, the_end)
    bodies_are =
        bodies_read own_adt own_trait graph.items (are_named graph listed) (adts_told graph listed) (traits_told graph listed) graph.bodies (good_bodies graph listed)
        the_end refl refl refl

-- the signature of a body is that of its locals
abbrev pub sig_from : List ℕ → List Written → Option SigSeen
sig_from name [] = None
sig_from name (answer ∷ params) = Some (name, params, answer)

abbrev pub whole : BodyRead → BodySeen
whole read = record {
  signature = sig_from read.name (take (suc read.params) read.locals);
  params = read.params;
  locals = read.locals;
  blocks = read.blocks;
}

pub one_id : (a b : TyId) → same_id a b ≡ true → a ≡ b
one_id a b h = λ i. record { 0 = eqb-true a.0 b.0 h i }

written_alike : (items : ItemTable) (xs ys : List TyId) → same_ids xs ys ≡ true → map (type_text items) xs ≡ map (type_text items) ys
written_alike items [] [] h = refl
written_alike items [] (y ∷ ys) h = absurd (false≢true h)
written_alike items (x ∷ xs) [] h = absurd (false≢true h)
written_alike items (x ∷ xs) (y ∷ ys) h =
    let (one, others) = and_parts (same_id x y) _ h in
    λ i. type_text items (one_id x y one i) ∷ written_alike items xs ys others i

sig_is : (graph : Graph) (n : ℕ) (body : Body) → has_sig graph.items (length graph.bodies) body (slice_get graph.items.bodies n) ≡ true
    → body_seen graph.items n body ≡ whole (body_read_seen graph.items n body)
sig_is graph n body h = by (slice_get graph.items.bodies n) refl
  where
    by : (o : Option Sig) → slice_get graph.items.bodies n ≡ o → body_seen graph.items n body ≡ whole (body_read_seen graph.items n body)
    by None e = absurd (false≢true (subst (λ (o : Option Sig). option_map_or (is_sig_of graph.items (length graph.bodies) body) o false ≡ true) e h))
    by (Some sig) e =
        let items : ItemTable = graph.items in
        let shown = subst (λ (o : Option Sig). option_map_or (is_sig_of items (length graph.bodies) body) o false ≡ true) e h in
        let alike = (and_parts (length sig.params == body.params) _ shown).1 in
        let rows : take (suc body.params) (map (type_text items) body.locals) ≡ map (type_text items) (sig.result ∷ sig.params) =
        take-map (type_text items) (suc body.params) body.locals ∙ written_alike items (take (suc body.params) body.locals) (sig.result ∷ sig.params) alike in
        let told : sig_from (sig_name (slice_get items.bodies n)) (take (suc body.params) (map (type_text items) body.locals)) ≡ Some (sig_seen items sig) =
        λ i. sig_from (sig_name (e i)) (rows i) in
        let signed : option_map (sig_seen items) (slice_get items.bodies n) ≡ sig_from (sig_name (slice_get items.bodies n)) (take (suc body.params) (map (type_text items) body.locals)) =
        ap (option_map (sig_seen items)) e ∙ sym told in
        λ i. record { signature = signed i; params = body.params; locals = map (type_text items) body.locals; blocks = body.blocks }

pub whole_numbered : (graph : Graph) (k : ℕ) (bodies : List Body) → EveryFrom (λ n body. body_seen graph.items n body ≡ whole (body_read_seen graph.items n body)) k bodies
    → numbered (body_seen graph.items) k bodies ≡ map whole (numbered (body_read_seen graph.items) k bodies)
whole_numbered graph k [] h = refl
whole_numbered graph k (body ∷ bodies) h = λ i. h.0 i ∷ whole_numbered graph (suc k) bodies h.1 i

pub whole_bodies : (graph : Graph) → IsListed graph → numbered (body_seen graph.items) 0 graph.bodies ≡ map whole (numbered (body_read_seen graph.items) 0 graph.bodies)
whole_bodies graph listed =
    whole_numbered graph 0 graph.bodies
    (every_from_by (λ n body. body_seen graph.items n body ≡ whole (body_read_seen graph.items n body)) 0 graph.bodies
    (λ n body is. subst (λ m. body_seen graph.items m body ≡ whole (body_read_seen graph.items m body)) (let e : n ≡ 0 + n = omega arith in e)
    (sig_is graph n body (sig_holds graph listed n body is))))

pub rows_alike : {Z : Type 0} (read other : List ℕ → FoundInText Z) (t u : List ℕ) (xs ys : List Z) (s v : List ℕ) → read ≡ other → t ≡ u
    → many read t ≡ (xs, s) → many other u ≡ (ys, v) → (xs ≡ ys) × (s ≡ v)
rows_alike {Z} read other t u xs ys s v same e a b =
    let q : Path (List Z × List ℕ) (xs, s) (ys, v) = sym a ∙ (λ i. many (same i) (e i)) ∙ b in
    (ap (λ (p : List Z × List ℕ). p.0) q, ap (λ (p : List Z × List ℕ). p.1) q)

pub one_graph_a_listing : OneGraphAListing
one_graph_a_listing left right l r one =
    let top : at_adts left ≡ at_adts right =
    same_Some (at_adts left) (at_adts right) (ap (strip (line (codes "mirdrop 1"))) (sym (in_rows left) ∙ one ∙ in_rows right)) in
    let (adts, below_adts) = rows_alike adt_read adt_read (at_adts left) (at_adts right) (map (adt_seen left.items) left.items.adts) (map (adt_seen right.items) right.items.adts)
    (at_traits left) (at_traits right) refl top (adts_are left l) (adts_are right r) in
    let (traits, below_traits) = rows_alike trait_read trait_read (at_traits left) (at_traits right) (map (trait_seen left.items) left.items.traits)
    (map (trait_seen right.items) right.items.traits) (at_impls left) (at_impls right) refl below_adts (traits_are left l) (traits_are right r) in
    let by_adt : own_adt left l ≡ own_adt right r = ap (λ (seen : List AdtSeen). place_in (map (λ (adt : AdtSeen). adt.name) seen)) adts in
    let by_trait : own_trait left l ≡ own_trait right r =
    ap (λ (seen : List (List ℕ × List SigSeen)). place_in (map (λ (def : List ℕ × List SigSeen). def.0) seen)) traits in
    let (impls, below_impls) = rows_alike (impl_read (own_adt left l) (own_trait left l)) (impl_read (own_adt right r) (own_trait right r)) (at_impls left) (at_impls right)
    left.items.impls right.items.impls (at_closures left) (at_closures right) (λ i. impl_read (by_adt i) (by_trait i)) below_traits (impls_are left l) (impls_are right r) in
    let (closures, below_closures) = rows_alike closure_read closure_read (at_closures left) (at_closures right) (map (closure_seen left.items) left.items.closures)
    (map (closure_seen right.items) right.items.closures) (at_bodies left) (at_bodies right) refl below_impls (closures_are left l) (closures_are right r) in
    let (read, the_same_end) = rows_alike (body_read (own_adt left l) (own_trait left l)) (body_read (own_adt right r) (own_trait right r)) (at_bodies left) (at_bodies right)
    (numbered (body_read_seen left.items) 0 left.bodies) (numbered (body_read_seen right.items) 0 right.bodies) (the_end left) (the_end right)
    (λ i. body_read (by_adt i) (by_trait i)) below_closures (bodies_are left l) (bodies_are right r) in
    let bodies : numbered (body_seen left.items) 0 left.bodies ≡ numbered (body_seen right.items) 0 right.bodies =
    whole_bodies left l ∙ ap (map whole) read ∙ sym (whole_bodies right r) in
    λ i. record { adts = adts i; traits = traits i; impls = impls i; closures = closures i; bodies = bodies i }
