-- The trees of texts, and accepted texts.
use Rattle.std.proofs.Common.{◌≡◌, ℕ, List, [], Result, Ok, Err, refl, sym, subst, Option, Some, None}
use Rattle.std.proofs.Math.Path.{fun_ext}
use Rattle.mir_base.specs.declared.place_in_text.Pos.{Pos}
use Rattle.mir_ty.specs.ItemTable.{ItemTable}
use Rattle.src_token.specs.declared.token.Spanned.{Spanned}
use Rattle.src_token.specs.Tokens.{Tokens}
use Rattle.src_tree.specs.declared.node.Tree.{Tree}
use Rattle.src_tree.specs.Layout.{Parts, end, tok, sub}
use Rattle.src_tree.specs.View.{items_of}
use Rattle.src_parse.specs.Answers.{IsTree}
use Rattle.typed_tree.specs.Tree.{ProgramTree}
use Rattle.well_typed.specs.Claim.{Holds, each}
use Rattle.well_typed.specs.Program.{WellTyped, are_bodies}
use Rattle.typing_rules.specs.Borrows.{broken_borrow, unless_broken, unless_borrows, read_typed}
use Rattle.typing_rules.specs.Check.{Broken}
use Rattle.typing_rules.specs.Collected.{collected}
use Rattle.typing_rules.specs.Items as items
use Rattle.typing_rules.specs.Items.{item_syns}
use Rattle.typing_rules.specs.Program.{checked, then_checked, typed_program}
use Rattle.typing_rules.specs.Promises.{AreReady, AreClosures}
use Rattle.typing_soundness.specs.Heads.{TellBodies}
use Rattle.typing_soundness.specs.Program.{IsOfText, IsAccepted, HaveHeads}
use Rattle.typing_soundness.specs.Shapes.{item_shaped}
use Rattle.typing_soundness.proofs.Items.Accepting.{are_headed, are_typed}
use Rattle.typing_soundness.proofs.Items.Named.{names_are_words}
use Rattle.typing_soundness.specs.Named.{item_named, HasNames}
use Rattle.typing_soundness.proofs.Items.Entire.{text_well_typed}
use Rattle.typing_soundness.specs.Texts.{IsAcceptedText, IsTypedProgram}
use Rattle.typing_soundness.proofs.Good.{Held, Each, IsItem}
use Rattle.typing_soundness.proofs.Names.{EachPlain, plain_parts, tokens_plain}
use Rattle.typing_soundness.proofs.Trees.{items_are}

items_shaped : (parts : Held) → Each IsItem parts → Holds (each item_shaped (item_syns (items.items_of parts)))
items_shaped end h = refl
items_shaped (tok t rest) h = items_shaped rest h
items_shaped (sub g rest) h = (h.0.shape, items_shaped rest h.1)

items_listed : (parts : Held) → Each IsItem parts → TellBodies (items.items_of parts)
items_listed end h = tt
items_listed (tok t rest) h = items_listed rest h
items_listed (sub g rest) h = (λ around. fun_ext (λ r. h.0.tells around r), items_listed rest h.1)

items_named : (parts : Held) → Each IsItem parts → Holds (each item_named (item_syns (items.items_of parts)))
items_named end h = refl
items_named (tok t rest) h = items_named rest h
items_named (sub g rest) h = (h.0.names, items_named rest h.1)

items_in : (text : List ℕ) (tokens : List Spanned) (end_ : Pos) (tree : Tree) → Tokens text tokens → IsTree tokens end_
    tree → Each IsItem (items_of tree)
items_in text tokens end_ tree h is =
    items_are (items_of tree) (plain_parts (items_of tree) [] (subst EachPlain (sym is.spelled) (tokens_plain text tokens
    h))).0 is.levelled

pub is_of_text : (text : List ℕ) (tokens : List Spanned) (end_ : Pos) (tree : Tree) → Tokens text tokens → IsTree tokens
    end_ tree → IsOfText (items_of tree)
is_of_text text tokens end_ tree h is =
    let are = items_in text tokens end_ tree h is in
    record {
      shaped = items_shaped (items_of tree) are;
      named = items_named (items_of tree) are;
      listed = items_listed (items_of tree) are;
    }

-- what was collected of an accepted text
both_parts : (parts : Parts Pos) (r : Result ItemTable Broken) (p : ProgramTree) → then_checked parts r ≡ Ok p → (is :
    ItemTable) × (r ≡ Ok is) × (checked parts is ≡ Ok p)
both_parts parts (Ok is) p e = (is, refl, e)
both_parts parts (Err b) p e = absurd (cc)

module _ (text : List ℕ) (p : ProgramTree) (h : IsAcceptedText text p) where
  abbrev parts : Parts Pos
  parts = items_of h.tree

  found : (is : ItemTable) × (collected parts h.tree.end ≡ Ok is) × (checked parts is ≡ Ok p)
  found = both_parts parts (collected parts h.tree.end) p h.typed

  accepted : IsAccepted parts found.0 p
  accepted = record {
    text = is_of_text text h.tokens h.end_ h.tree h.cut h.is_tree;
    end = h.tree.end;
    collected = found.1;
    checked = found.2;
  }

  pub text_program : IsTypedProgram p
  text_program =
      let headed = are_headed parts found.0 p accepted in
      record {
        heads = headed.0;
        closures = headed.1;
        ready = (are_typed parts found.0 p accepted).0;
        names = names_are_words parts found.0 p accepted;
        well_typed = text_well_typed parts found.0 p accepted;
      }

-- ---- what is read

-- a program that breaks no rule of borrows is that of the rules before
not_broken : (o : Option Broken) (q p : ProgramTree) → unless_broken q o ≡ Ok p → ◌≡◌ {A = Result ProgramTree Broken} (Ok q)
    (Ok p)
not_broken None q p h = h
not_broken (Some b) q p h = absurd (cc)

before_borrows : (r : Result ProgramTree Broken) (p : ProgramTree) → unless_borrows r ≡ Ok p → r ≡ Ok p
before_borrows (Err e) p h = absurd (cc)
before_borrows (Ok q) p h = not_broken (broken_borrow q) q p h

pub read_is_typed : (text : List ℕ) (tokens : List Spanned) (end_ : Pos) (tree : Tree) (p : ProgramTree) → Tokens text
    tokens → IsTree tokens end_ tree → read_typed (items_of tree) tree.end ≡ Ok p → IsTypedProgram p
read_is_typed text tokens end_ tree p cut is read =
    text_program text p (record {
      tokens = tokens;
      cut = cut;
      end_ = end_;
      tree = tree;
      is_tree = is;
      typed = before_borrows (typed_program (items_of tree) tree.end) p read;
    })
