-- What a node asks of the exchange, without its allocator.
use Rattle.std.specs.Prelude.{ℕ, ◌+◌, length}
use Rattle.bsp_requests.specs.Put.{Put}
use Rattle.bsp_requests.specs.Outgoing.{Outgoing}
use Rattle.bsp_requests.specs.declared.request.Get.{Get}
use Rattle.bsp_requests.specs.declared.request.Request.{Request}
use Rattle.bsp_requests.specs.declared.request.Request.TheVariants.{Put as ToPut, Get as ToGet, Send as ToSend}

-- a put, a get or a send
pub data Asked : Type 0 where
  asks_put : Put → Asked
  asks_get : Get → Asked
  asks_send : Outgoing → Asked

-- what a request asks, whatever memory holds it
abbrev pub asked : {A : Type 0} → Request A → Asked
asked (ToPut p) = asks_put p
asked (ToGet g) = asks_get g
asked (ToSend s) = asks_send s

-- own rule: a put and a get count the bytes that they move, a send those of its tag and payload
abbrev pub size_of : Asked → ℕ
size_of (asks_put p) = length p.bytes
size_of (asks_get g) = g.len
size_of (asks_send s) = length s.tag + length s.payload
