-- How one exchange with a peer ends: what was sent in it and received, and what is answered for that.
use Rattle.std.specs.Prelude.{◌≡◌, ◌⊎◌, ℕ, ◌<◌, ◌≤◌, Bool, List, [], ◌∷◌, length, take, Result, Ok, Err, ⊤}
use Rattle.definitions.specs.Counts.{Rose}
use Rattle.at_edge.specs.Linking.{Exchange, LinkSeen, response_side, BegunSince}
use Rattle.http_wire.specs.Messages.{IsResponse}
use Rattle.http_wire.specs.Reading.{Refuses}
use Rattle.http_wire.specs.Written.{ResponseSeen}
use Rattle.http_wire.specs.declared.fail.HttpFail.{HttpFail}
use Rattle.http_wire.specs.declared.finding.HeadKind.TheVariants.{OfResponse}
use Rattle.sync_wire.specs.Refusals.{reply_refused}
use Rattle.sync_wire.specs.declared.fail.AskFail.{AskFail}
use Rattle.sync_wire.specs.declared.fail.AskFail.TheVariants.{LinkFault, PeerStatus, PeerForm, NoMemory}

-- ---- how far an exchange came

pub data Way : Type 0 where
  -- none was begun
  NotBegun : Way
  -- of the request only the first so many bytes were taken
  CutShort : (sent : ℕ) → Way
  -- all of it was, and these bytes came
  Sent : (received : List ℕ) → Way

-- the exchanges that were begun on the way, of a request of these bytes
abbrev pub exchanges_on : (text : List ℕ) → Way → List Exchange
exchanges_on text NotBegun = []
exchanges_on text (CutShort sent) = record { request = take sent text; response = [] } ∷ []
exchanges_on text (Sent received) = record { request = text; response = received } ∷ []

-- ---- responses

-- the bytes begin with a response of the code 200 with this body
pub record HasBody (received body : List ℕ) : Type 0 where
  pub close : Bool
  pub behind : List ℕ
  pub is : IsResponse received (record { code = 200; close = close; body = body }) behind

-- they begin with a response of another code
pub record HasCode (received : List ℕ) (code : ℕ) : Type 0 where
  pub response : ResponseSeen
  pub behind : List ℕ
  pub is : IsResponse received response behind
  pub code_is : response.code ≡ code
  pub other : ¬ (code ≡ 200)

-- they are no response, as the wire says that refused them
pub record IsNone (first now : LinkSeen) (received : List ℕ) : Type 0 where
  pub fail : HttpFail
  pub refuses : Refuses OfResponse (response_side first) (response_side now) received fail
  pub is_form : reply_refused fail ≡ PeerForm

-- the body that was received says this, or isn't of the form, or its code is another, or nothing is a response
abbrev pub Received : {T : Type 0} → (Says : List ℕ → T → Type 0) (Unsaid : List ℕ → Type 0) (first now : LinkSeen) (received : List ℕ) → Result T AskFail → Type 0
Received Says Unsaid first now received (Ok said) = (body : List ℕ) × HasBody received body × Says body said
Received Says Unsaid first now received (Err LinkFault) = Rose first.faults now.faults
Received Says Unsaid first now received (Err (PeerStatus code)) = HasCode received code
Received Says Unsaid first now received (Err PeerForm) = IsNone first now received ⊎ ((body : List ℕ) × HasBody received body × Unsaid body)
Received Says Unsaid first now received (Err NoMemory) = ⊤

-- ---- exchanges

-- why no request was sent: the link failed, or for want of memory
abbrev pub Unsent : {T : Type 0} → (first now : LinkSeen) → Result T AskFail → Type 0
Unsent first now (Ok _) = ⊥
Unsent first now (Err LinkFault) = Rose first.faults now.faults
Unsent first now (Err NoMemory) = ⊤
Unsent first now (Err _) = ⊥

-- a request is cut short by a fault of the link alone
pub record IsCut {T : Type 0} (text : List ℕ) (first now : LinkSeen) (sent : ℕ) (answer : Result T AskFail) : Type 0 where
  pub short : sent < length text
  pub answered : answer ≡ Err LinkFault
  pub rose : Rose first.faults now.faults

abbrev pub EndsOn : {T : Type 0} → (Says : List ℕ → T → Type 0) (Unsaid : List ℕ → Type 0) (text : List ℕ) (first now : LinkSeen) → Way → Result T AskFail → Type 0
EndsOn Says Unsaid text first now NotBegun answer = Unsent first now answer
EndsOn Says Unsaid text first now (CutShort sent) answer = IsCut text first now sent answer
EndsOn Says Unsaid text first now (Sent received) answer = Received Says Unsaid first now received answer

-- the request of these bytes was sent in an exchange of its own, as far as the link allowed, and answered so; `Says` is what a
-- body of the form asked for says, and `Unsaid` that it isn't of that form
pub record Asks {T : Type 0} (Says : List ℕ → T → Type 0) (Unsaid : List ℕ → Type 0) (text : List ℕ) (first now : LinkSeen) (answer : Result T AskFail) : Type 0 where
  pub way : Way
  pub begun : BegunSince first.exchanges now.exchanges (exchanges_on text way)
  pub faults : first.faults ≤ now.faults
  pub ends : EndsOn Says Unsaid text first now way answer

-- ---- parts of it

-- the body of a response of the code 200, or its other code
abbrev pub GivesBody : ResponseSeen → Result (List ℕ) AskFail → Type 0
GivesBody response (Ok body) = (response.code ≡ 200) × (body ≡ response.body)
GivesBody response (Err (PeerStatus code)) = (response.code ≡ code) × ¬ (code ≡ 200)
GivesBody response (Err _) = ⊥

-- any body is of the form of bytes, and says itself
abbrev pub SaysItself : (body said : List ℕ) → Type 0
SaysItself body said = said ≡ body

abbrev pub NeverUnsaid : (body : List ℕ) → Type 0
NeverUnsaid body = ⊥

-- a request was sent whole, or not
abbrev pub Sends : {T : Type 0} → (text : List ℕ) (first now : LinkSeen) → Result T AskFail → Type 0
Sends text first now (Ok _) = BegunSince first.exchanges now.exchanges (exchanges_on text (Sent [])) × (first.faults ≤ now.faults)
Sends text first now (Err fail) = Asks SaysItself NeverUnsaid text first now (Err fail)

-- what is read of a body
abbrev pub ReadsBody : {T : Type 0} → (Says : List ℕ → T → Type 0) (Unsaid : List ℕ → Type 0) (body : List ℕ) → Result T AskFail → Type 0
ReadsBody Says Unsaid body (Ok said) = Says body said
ReadsBody Says Unsaid body (Err PeerForm) = Unsaid body
ReadsBody Says Unsaid body (Err NoMemory) = ⊤
ReadsBody Says Unsaid body (Err _) = ⊥
