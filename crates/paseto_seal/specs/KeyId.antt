-- PASERK, types local ("k4.local.") and lid ("k4.lid."), version 4: a public name for a key ("ID").
use Rattle.std.specs.Prelude.{ℕ, List, [], ◌++◌, codes}
use Rattle.blake2b_core.specs.Hash.{blake2b}
use Rattle.paseto_seal.specs.Base64Url.{base64url}

abbrev pub key_id_header : List ℕ
key_id_header = codes "k4.lid."

-- the key as a PASERK text
abbrev pub local_key_text : List ℕ → List ℕ
local_key_text key = codes "k4.local." ++ base64url key

-- the id of a key: 33 bytes of hash, with no key, over the header and the key's text
unfoldable pub key_id_of : List ℕ → List ℕ
key_id_of key = key_id_header ++ base64url (blake2b 33 [] (key_id_header ++ local_key_text key))
