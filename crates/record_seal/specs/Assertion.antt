-- What a sealed text is bound to: what its record says in the open, as compact JSON. It is the implicit assertion of the
-- record's token.
use Rattle.std.specs.Prelude.{ℕ, List, [], ◌∷◌, codes, decimal}
use Rattle.std.specs.Int.{w128, to_be_bytes}
use Rattle.json.specs.Token.{begin_object, end_object, key, string, number}
use Rattle.json.specs.Print.{print}
use Rattle.uuid.specs.Text.{hyphenated_text, lower}
use Rattle.record_rules.specs.Records.{SealedRecord}
use Rattle.step_rules.specs.Store.{Head}

-- an id in lower-case digits, with hyphens (RFC 9562, section 4)
abbrev pub printed_id : ℕ → List ℕ
printed_id id = hyphenated_text lower (to_be_bytes w128 id)

-- {"id":"..","idx":..,"version":"..","tag":"..","host":".."}
unfoldable pub assertion : Head → List ℕ
assertion head =
    print
    (begin_object
    ∷ key (codes "id") ∷ string (printed_id head.id)
    ∷ key (codes "idx") ∷ number (decimal head.idx)
    ∷ key (codes "version") ∷ string head.version
    ∷ key (codes "tag") ∷ string head.tag
    ∷ key (codes "host") ∷ string (printed_id head.host)
    ∷ end_object ∷ [])

-- what a record says in the open
abbrev pub head_of : SealedRecord → Head
head_of r = record { id = r.id; idx = r.idx; version = r.version; tag = r.tag; host = r.host }
