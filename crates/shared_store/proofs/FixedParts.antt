-- The fixed part tells host and key.
use Rattle.std.proofs.Common.{◌≡◌, ℕ, List, [], ◌∷◌, length, Option, Some, None, refl, sym, ap}
use Rattle.std.specs.Option.{unwrap_or}
use Rattle.shared_store.specs.Books.{IsKey, TellsHostAndKey, host_of}

no_bytes : (key : List ℕ) → length key ≡ 32 → [] ≡ key → ⊥
no_bytes [] long e = absurd cc
no_bytes (b ∷ key) long e = absurd cc

-- keys of 32 bytes whose bytes are the same are one
same_key : (one other : Option (List ℕ)) → IsKey one → IsKey other → unwrap_or one [] ≡ unwrap_or other [] → one ≡ other
same_key None None is are same = refl
same_key (Some k) (Some l) is are same = ap Some same
same_key None (Some l) is are same = absurd (no_bytes l are same)
same_key (Some k) None is are same = absurd (no_bytes k is (sym same))

pub tells_host_and_key : TellsHostAndKey
tells_host_and_key one other is are same =
    let bytes : unwrap_or one.key [] ≡ unwrap_or other.key [] = cc in
    (ap host_of same, same_key one.key other.key is are bytes)
