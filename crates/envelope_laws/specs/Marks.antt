-- What marks of redelivery change in a tree, member by member.
use Rattle.std.specs.Prelude.{◌≡◌, ℕ, List, codes, true, Some}
use Rattle.serde_json.specs.Data.{Data, boolean}
use Rattle.serde_json.specs.Find.{get}
use Rattle.envelope_trees.specs.Marks.{marked}
use Rattle.envelope_trees.specs.Members.{object_at}

-- two trees have the same at each name but this one
abbrev pub AgreeBut : List ℕ → Data → Data → Type 0
AgreeBut k a b = (q : List ℕ) → (q ≡ k → ⊥) → get q a ≡ get q b

-- a marked tree around these headers, these properties and this delivery_info: true stands at `redelivered` in its headers and in its delivery_info, and each other name has what it had
pub record IsMarkedAlone (d h p i : Data) : Type 0 where
  pub headers : Data
  pub properties : Data
  pub info : Data
  pub headers_is : object_at (codes "headers") (marked d) ≡ Some headers
  pub properties_is : object_at (codes "properties") (marked d) ≡ Some properties
  pub info_is : object_at (codes "delivery_info") properties ≡ Some info
  pub header_mark : get (codes "redelivered") headers ≡ Some (boolean true)
  pub info_mark : get (codes "redelivered") info ≡ Some (boolean true)
  pub in_headers : AgreeBut (codes "redelivered") headers h
  pub in_info : AgreeBut (codes "redelivered") info i
  pub in_properties : AgreeBut (codes "delivery_info") properties p
  pub elsewhere : (q : List ℕ) → (q ≡ codes "headers" → ⊥) → (q ≡ codes "properties" → ⊥) → get q (marked d) ≡ get q d

-- marks change two members and nothing else
abbrev pub MarksAlone : Type 0
MarksAlone = (d h p i : Data) → object_at (codes "headers") d ≡ Some h → object_at (codes "properties") d ≡ Some p → object_at (codes "delivery_info") p ≡ Some i → IsMarkedAlone d h p i
