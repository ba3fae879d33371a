-- The tree that is sealed: the members that each sealed envelope has (Kombu's virtual transport, Celery's message protocol).
use Rattle.std.specs.Prelude.{List, ℕ, ℤ, codes, []}
use Rattle.serde_json.specs.Data.{Data, string, number, unsigned, object, member, no_members}
use Rattle.serde_json.specs.Find.{of_integer}

-- the delivery_info of an exchange and a routing key
abbrev pub sealed_info : List ℕ → List ℕ → Data
sealed_info exchange routing_key = object
    (member (codes "exchange") (string exchange)
    (member (codes "routing_key") (string routing_key) no_members))

-- the properties around it
abbrev pub sealed_properties : Data → List ℕ → ℤ → List ℕ → Data
sealed_properties info id priority tag = object
    (member (codes "body_encoding") (string (codes "base64"))
    (member (codes "correlation_id") (string id)
    (member (codes "delivery_info") info
    (member (codes "delivery_mode") (number (unsigned 2))
    (member (codes "delivery_tag") (string tag)
    (member (codes "priority") (number (of_integer priority))
    (member (codes "reply_to") (string []) no_members)))))))

-- the tree around a body, headers and properties
abbrev pub sealed_tree : List ℕ → Data → Data → Data
sealed_tree body headers properties = object
    (member (codes "body") (string body)
    (member (codes "content-encoding") (string (codes "utf-8"))
    (member (codes "content-type") (string (codes "application/json"))
    (member (codes "headers") headers
    (member (codes "properties") properties no_members)))))
