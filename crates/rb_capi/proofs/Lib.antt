mod ClosedInMemory
mod CutBytes
mod JournalCalls
mod Messages
mod RawBoxValues
mod SlotMoves
mod SlotValues
