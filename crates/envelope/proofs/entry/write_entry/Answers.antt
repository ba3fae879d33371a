use Rattle.std.proofs.Common.{◌≡◌, ℕ, List, Ok, sym, ap, subst, ◌∙◌}
use Rattle.std.proofs.lemmas.Result.{IfOk-weaker}
use Rattle.std.specs.Prelude.{IsUtf8}
use Rattle.serde_json.specs.Data.{string}
use Rattle.serde_json.specs.View.{view as data_of}
use Rattle.serde_json.specs.Written.{compact_text}
use Rattle.envelope.specs.Entries.{entry_at, entry_data, entry_for}
use Rattle.envelope.specs.Envelopes.{said_by}
use Rattle.envelope.specs.Shown.{parts_view}
use Rattle.envelope.proofs.EntriesBack.{array_joined, joined_again}
use Rattle.envelope.proofs.entry.write_entry.Goals as goal

pub returns-clause-text : goal.returns-clause-text
returns-clause-text c =
    let d = data_of c.args.e.now in
    let p = parts_view c.e.inside.found in
    let said : said_by d ≡ Ok p = ap (λ t. said_by (data_of t)) (sym c.e.view_is) ∙ c.e.invariant.said in
    let exchange : c.as_slice.result.now ≡ compact_text (string p.exchange) = c.as_slice.ensures ∙ (c.in_ok-exchange.ensures.text ∙ ap (λ (s : List ℕ). compact_text (string s)) c.as_str.ensures.value) in
    let routing_key : c.as_slice-2.result.now ≡ compact_text (string p.routing_key) = c.as_slice-2.ensures ∙ (c.in_ok-routing_key.ensures.text ∙ ap (λ (s : List ℕ). compact_text (string s)) c.as_str-2.ensures.value) in
    IfOk-weaker c.array_text.result _ (λ b. b ≡ compact_text (entry_data (entry_for d)))
    (λ b is. is ∙ array_joined d p c.text.result.now c.as_slice.result.now c.as_slice-2.result.now said c.text.ensures.value exchange routing_key) c.array_text.ensures

pub returns-clause-again : goal.returns-clause-again
returns-clause-again c =
    let d = data_of c.args.e.now in
    let p = parts_view c.e.inside.found in
    let said : said_by d ≡ Ok p = ap (λ t. said_by (data_of t)) (sym c.e.view_is) ∙ c.e.invariant.said in
    let exchange : c.as_slice.result.now ≡ compact_text (string p.exchange) = c.as_slice.ensures ∙ (c.in_ok-exchange.ensures.text ∙ ap (λ (s : List ℕ). compact_text (string s)) c.as_str.ensures.value) in
    let routing_key : c.as_slice-2.result.now ≡ compact_text (string p.routing_key) = c.as_slice-2.ensures ∙ (c.in_ok-routing_key.ensures.text ∙ ap (λ (s : List ℕ). compact_text (string s)) c.as_str-2.ensures.value) in
    let utf8 : IsUtf8 c.as_slice.result.now = subst IsUtf8 (sym c.as_slice.ensures) c.in_ok-exchange.ensures.utf8 in
    let utf8-2 : IsUtf8 c.as_slice-2.result.now = subst IsUtf8 (sym c.as_slice-2.ensures) c.in_ok-routing_key.ensures.utf8 in
    IfOk-weaker c.array_text.result _ (λ b. entry_at b ≡ Ok (entry_for d))
    (λ b is. joined_again d p c.text.result.now c.as_slice.result.now c.as_slice-2.result.now b said c.text.ensures.value c.text.ensures.again exchange utf8 routing_key utf8-2
    (is ∙ array_joined d p c.text.result.now c.as_slice.result.now c.as_slice-2.result.now said c.text.ensures.value exchange routing_key)) c.array_text.ensures
