mod Ends
mod JournalInputs
mod LinesOfFiles
mod OnDisk
mod PlacesInFiles
