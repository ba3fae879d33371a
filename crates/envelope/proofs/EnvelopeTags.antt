-- What an envelope tells of its tag.
use Rattle.std.proofs.Common.{◌≡◌, ℕ, List, true, codes, Option, Some, None, option_map, Result, Ok, Err, refl, sym, ap, subst, ◌∙◌}
use Rattle.std.specs.Result.{result_ok}
use Rattle.serde_json.specs.Data.{Data}
use Rattle.envelope.specs.Bodies.{tag_of_bytes}
use Rattle.envelope.specs.Envelopes.{Parts, said_by, parts_or_none, envelope_of, envelope_at, tree_at}
use Rattle.envelope_trees.specs.Members.{text_at}
use Rattle.delivery_tags.specs.Tags.{tag_text, is_tag}
use Rattle.envelope_trees.specs.declared.fault.EnvelopeFault.{EnvelopeFault}
use Rattle.envelope.proofs.Said.{bind_ok, said_is}
use Rattle.delivery_tags.proofs.SeedTags.{text_read}
use Rattle.envelope.proofs.Told.{told_by}

said_tag : (d : Data) (p : Parts) → said_by d ≡ Ok p → is_tag (tag_text p.tag) ≡ true
said_tag d p e =
    let h = told_by d p (said_is d p e).parts in
    subst (λ n. is_tag (tag_text n) ≡ true) h.tag_is (text_read (text_at (codes "delivery_tag") h.properties) h.said.tag h.inner.tag_is)

pub ok_is : {A : Type 0} (r : Result A EnvelopeFault) (x : A) → result_ok r ≡ Some x → r ≡ Ok x
ok_is (Ok y) x e = let s : y ≡ x = cc in ap (λ z. Ok z) s
ok_is (Err f) x e = cc

same_tree : (d e : Data) → ◌≡◌ {A = Result Data EnvelopeFault} (Ok d) (Ok e) → d ≡ e
same_tree d e h = cc

-- the envelope of a tree is the tree, which says something
pub envelope_said : (d e : Data) → envelope_of d ≡ Ok e → (d ≡ e) × ((p : Parts) × (said_by d ≡ Ok p))
unfolding envelope_of
envelope_said d e h =
    let s = bind_ok (said_by d) (λ p. Ok d) e h in
    (same_tree d e s.2, (s.0, s.1))

-- what was read as an envelope's tree says something
pub read_said : (v : List ℕ) (d : Data) → envelope_at v ≡ Ok d → (tree_at v ≡ Ok d) × ((p : Parts) × (said_by d ≡ Ok p))
unfolding envelope_at
read_said v d h =
    let t = bind_ok (tree_at v) envelope_of d h in
    let s = envelope_said t.0 d t.2 in
    (t.1 ∙ ap (λ x. Ok x) s.0, (s.1.0, ap said_by (sym s.0) ∙ s.1.1))

-- the tag of an envelope is a tag's text
pub tag_text_is : (v t : List ℕ) → tag_of_bytes v ≡ Some t → is_tag t ≡ true
tag_text_is v t e = go (result_ok (envelope_at v)) refl e
  where
    inner : (d : Data) (p : Parts) → said_by d ≡ Ok p → ◌≡◌ {A = Option (List ℕ)} (Some (tag_text (parts_or_none (said_by d)).tag)) (Some t) → is_tag t ≡ true
    inner d p s f =
        let same : tag_text (parts_or_none (said_by d)).tag ≡ t = cc in
        subst (λ x. is_tag x ≡ true) (ap (λ r. tag_text (parts_or_none r).tag) (sym s) ∙ same) (said_tag d p s)

    go : (o : Option Data) → result_ok (envelope_at v) ≡ o → option_map (λ p. tag_text p.tag) (option_map (λ d. parts_or_none (said_by d)) o) ≡ Some t → is_tag t ≡ true
    go None i f = cc
    go (Some d) i f = let s = read_said v d (ok_is (envelope_at v) d i) in inner d s.1.0 s.1.1 f
