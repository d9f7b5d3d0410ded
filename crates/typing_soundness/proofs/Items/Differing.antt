-- Names of an accepted text are words, and differ.
use Rattle.std.proofs.Common.{◌≡◌, Bool, true, false, ◌&&◌, ◌||◌, not, List, [], ◌∷◌, ◌++◌, map, IsTrue, refl, ap, sym, ◌∙◌}
use Rattle.std.specs.Str.{bytes_eq}
use Rattle.std.proofs.lemmas.Bool.{and_from, and_parts, false≢true}
use Rattle.std.proofs.lemmas.List.Folds.{list_any-append}
use Rattle.mir_base.specs.declared.place_in_text.Pos.{Pos}
use Rattle.mir_ty.specs.declared.adt.Adt.{Adt}
use Rattle.mir_ty.specs.declared.def.Sig.{Sig}
use Rattle.mir_ty.specs.declared.def.TraitDef.{TraitDef}
use Rattle.mir_ty.specs.ItemTable.{ItemTable}
use Rattle.src_tree.specs.Layout.{Parts}
use Rattle.typed_tree.specs.Tree.{ProgramTree}
use Rattle.well_typed.specs.Claim.{Holds, each}
use Rattle.well_typed.specs.Names.{are_distinct, is_among, is_word}
use Rattle.typing_rules.specs.Items.{items_of, item_syns}
use Rattle.src_ast.specs.Syntax.{Word, Syn, syn, AnItem, StructItem, EnumItem, TraitItem, FnItem}
use Rattle.typing_soundness.specs.Named.{item_named}
use Rattle.typing_soundness.specs.Program.{IsAccepted}
use Rattle.typing_soundness.proofs.Items.Numbered.{IsWorded}
use Rattle.typing_soundness.proofs.Items.Ready.{All}
use Rattle.typing_soundness.proofs.Items.Words.{text_names_differ}

not_either : (a b : Bool) → IsTrue (not (a || b)) → IsTrue (not a)
not_either true b h = absurd (false≢true h)
not_either false b h = refl

-- names that differ together differ each for themselves
distinct_parts : (vs ws : List Word) → IsTrue (are_distinct (vs ++ ws)) → IsTrue (are_distinct vs) × IsTrue (are_distinct ws)
distinct_parts [] ws h = (refl, h)
distinct_parts (v ∷ vs) ws h =
    let k = and_parts (not (is_among v (vs ++ ws))) _ h in
    let r = distinct_parts vs ws k.1 in (
      and_from (not (is_among v vs)) _ (not_either (is_among v vs) (is_among v ws) (ap not (sym (list_any-append (bytes_eq v) vs
          ws)) ∙ k.0)) r.0,
      r.1,
    )

worded : (is : List Syn) → Holds (each item_named is) → All IsWorded is
worded [] h = tt
worded (syn at (AnItem (StructItem derives name kind fields)) ∷ is) h = ((and_parts (is_word name.1) _ h.0.0).0, worded is h.1)
worded (syn at (AnItem (EnumItem derives name variants)) ∷ is) h = ((and_parts (is_word name.1) _ h.0.0).0, worded is h.1)
worded (syn at (AnItem (TraitItem name heads)) ∷ is) h = ((and_parts (is_word name.1) _ h.0.0).0, worded is h.1)
worded (syn at (AnItem (FnItem name params answer block)) ∷ is) h = ((and_parts (is_word name.1) _ h.0).0, worded is h.1)
worded (syn at _ ∷ is) h = (tt, worded is h.1)

module _ (parts : Parts Pos) (items : ItemTable) (p : ProgramTree) (h : IsAccepted parts items p) where
  pub words_of_text : All IsWorded (item_syns (items_of parts))
  words_of_text = worded (item_syns (items_of parts)) h.text.named

  abbrev adts : List Word
  adts = map (λ (adt : Adt). adt.name) p.items.adts

  abbrev traits : List Word
  traits = map (λ (def : TraitDef). def.name) p.items.traits

  abbrev bodies : List Word
  bodies = map (λ (sig : Sig). sig.name) p.items.bodies

  apart : IsTrue (are_distinct (adts ++ traits)) × IsTrue (are_distinct bodies)
  apart = distinct_parts (adts ++ traits) bodies (text_names_differ parts items p h)

  pub adts_differ : IsTrue (are_distinct adts)
  adts_differ = (distinct_parts adts traits apart.0).0

  pub traits_differ : IsTrue (are_distinct traits)
  traits_differ = (distinct_parts adts traits apart.0).1

  pub bodies_differ : IsTrue (are_distinct bodies)
  bodies_differ = apart.1
