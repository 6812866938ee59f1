-- Frames: the length of a payload in four bytes, in big order, then the payload.
use Rattle.std.specs.Prelude.{◌≡◌, ◌≢◌, ℕ, ◌+◌, ◌<◌, ◌≤◌, List, [], ◌++◌, length, take, ◌⊎◌}
use Rattle.std.specs.List.{flat_map, All}
use Rattle.std.specs.Int.{w32, to_be_bytes, from_be_bytes}
use Rattle.definitions.specs.Limits.{most_payload_bytes}

abbrev pub frame : List ℕ → List ℕ
frame payload = to_be_bytes w32 (length payload) ++ payload

-- one frame after another
abbrev pub frames : List (List ℕ) → List ℕ
frames payloads = flat_map frame payloads

-- the length that the first four bytes name
abbrev pub named_length : List ℕ → ℕ
named_length bytes = from_be_bytes w32 (take 4 bytes)

-- the bytes begin no whole frame: they end within its length or within its payload
abbrev pub NoWholeFrame : List ℕ → Type 0
NoWholeFrame rest = (length rest < 4) ⊎ (length rest < 4 + named_length rest)

-- some bytes of a frame stand there and not all; where they name a length, it is one that is read
pub record CutFrame (rest : List ℕ) : Type 0 where
  pub some : rest ≢ []
  pub cut : NoWholeFrame rest
  pub short : 4 ≤ length rest → named_length rest ≤ most_payload_bytes

-- four bytes stand there and name a length that is not read
pub record LongFrame (rest : List ℕ) : Type 0 where
  pub head : 4 ≤ length rest
  pub long : most_payload_bytes < named_length rest

-- how a whole input ends behind its frames: with the last of them, within one, or at one that is too long
pub data StreamEnding : Type 0 where
  whole_stream : StreamEnding
  cut_stream : StreamEnding
  long_stream : StreamEnding

abbrev pub IsStreamEnding : StreamEnding → List ℕ → Type 0
IsStreamEnding whole_stream rest = rest ≡ []
IsStreamEnding cut_stream rest = CutFrame rest
IsStreamEnding long_stream rest = LongFrame rest

-- the whole input is frames of these payloads, of lengths that are read, and then ends so
pub record StreamEnds (bytes : List ℕ) (payloads : List (List ℕ)) (ending : StreamEnding) : Type 0 where
  pub rest : List ℕ
  pub short : All (λ (payload : List ℕ). length payload ≤ most_payload_bytes) payloads
  pub are : bytes ≡ frames payloads ++ rest
  pub ends : IsStreamEnding ending rest

-- nothing stands there, a part of a frame, or a frame that is too long
abbrev pub EndsStream : List ℕ → Type 0
EndsStream rest = (rest ≡ []) ⊎ (CutFrame rest ⊎ LongFrame rest)

-- frames of these payloads, at most so many, and a rest: either they are as many, or no frame that is read begins the rest
pub record CutAfter (limit : ℕ) (payloads : List (List ℕ)) (rest : List ℕ) : Type 0 where
  pub short : All (λ (payload : List ℕ). length payload ≤ most_payload_bytes) payloads
  pub few : length payloads ≤ limit
  pub ends : (length payloads ≡ limit) ⊎ EndsStream rest
