-- The reason phrases of the codes that are answered (RFC 9110, section 15).
use Rattle.std.specs.Prelude.{ℕ, List, [], codes, ◌==◌, if◌then◌else◌}

abbrev pub phrase_of : ℕ → List ℕ
phrase_of code =
    if code == 200 then codes "OK" else (if code == 400 then codes "Bad Request" else (if code == 401 then codes "Unauthorized" else (if code == 404 then codes "Not Found" else (if code == 405 then codes "Method Not Allowed" else (if code == 409 then codes "Conflict" else (if code == 411 then codes "Length Required" else (if code == 413 then codes "Content Too Large" else (if code == 431 then codes "Request Header Fields Too Large" else (if code == 500 then codes "Internal Server Error" else (if code == 503 then codes "Service Unavailable" else (if code == 507 then codes "Insufficient Storage" else [])))))))))))
