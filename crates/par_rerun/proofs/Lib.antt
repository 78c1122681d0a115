mod InParts
mod Listed
mod Shared
