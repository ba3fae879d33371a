-- The content of a body that was encoded.
use Rattle.std.proofs.Common.{◌≡◌, ℕ, List, Ok, refl}
use Rattle.base64.specs.Engines.{standard}
use Rattle.base64.specs.GeneralPurpose.{decode_of, decoded_of, encode_of}
use Rattle.envelope.specs.Envelopes.{content_of, if_text}

-- what was encoded is decoded: it is content where it is UTF-8
pub content_back : (c : List ℕ) → decode_of standard (encode_of standard c) ≡ Ok c → content_of (encode_of standard c) ≡ if_text c
unfolding content_of decoded_of
content_back c e = rw e refl
